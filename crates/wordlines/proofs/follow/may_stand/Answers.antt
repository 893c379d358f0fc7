use Rattle.wordlines.proofs.TickRows.{row_stands}
use Rattle.wordlines.proofs.follow.may_stand.Goals as goal

pub returns-then-is_upto : goal.returns-then-is_upto
returns-then-is_upto c =
    row_stands c.in-Ticks.row c.args.before.now c.args.now c.args.entry.now c.first.result c.is_upto.result
    c.has_room.result c.in-Ticks.is c.first.ensures c.requires c.if-is_upto.true c.is_upto.ensures c.has_room.ensures
