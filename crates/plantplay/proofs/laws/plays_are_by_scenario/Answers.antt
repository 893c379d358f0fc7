use Rattle.plantplay.proofs.Told.{by_scenario}
use Rattle.plantplay.proofs.laws.plays_are_by_scenario.Goals as goal

pub returns : goal.returns
returns c = λ setup scenario limit start left ending is played. by_scenario setup scenario limit start left ending is played
