use Rattle.plantevents.proofs.GivenUp.{given_up}
use Rattle.plantevents.proofs.laws.what_is_given_up.Goals as goal

pub returns : goal.returns
returns c = given_up
