use Rattle.std.proofs.Common.{◌∙◌, subst}
use Rattle.ilmachine.specs.MachineSteps.{IsRoomFor}
use Rattle.ilmachine.proofs.WholeRows.{left_kinds, is_left, plain_left}
use Rattle.ilmachine.proofs.whole_row.lasting_row.Goals as goal

pub take_start-requires : goal.take_start-requires
take_start-requires c =
    left_kinds c.args.code.now c.in-Some.lasting c.args.row
    (subst (IsRoomFor c.args.code.now) c.in-Some.is c.requires.room) c.requires.typed

pub returns-in-None : goal.returns-in-None
returns-in-None c =
    plain_left c.args.code.now c.args.row (subst (IsRoomFor c.args.code.now) c.in-None.is c.requires.room)
    c.requires.typed

pub returns-in-Some : goal.returns-in-Some
returns-in-Some c =
    c.take_start.ensures
    ∙ is_left c.args.code.now c.in-Some.lasting c.args.row
    (subst (IsRoomFor c.args.code.now) c.in-Some.is c.requires.room) c.requires.typed
