use Rattle.plantplay.proofs.Places.{has_place}
use Rattle.plantplay.proofs.naming.is_watchable.Goals as goal

pub returns : goal.returns
returns c =
    rw c.is_some.ensures (has_place c.args.plan.now c.args.name.now c.place_of.result c.place_of.ensures)
