use Rattle.plantevents.proofs.ComingUp.{down_has_none}
use Rattle.plantevents.proofs.laws.what_a_bus_has_open_that_is_down.Goals as goal

pub returns : goal.returns
returns c = down_has_none
