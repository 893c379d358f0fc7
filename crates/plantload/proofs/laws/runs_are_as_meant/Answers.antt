use Rattle.plantload.proofs.MeantCodes.{codes_meant}
use Rattle.plantload.proofs.laws.runs_are_as_meant.Goals as goal

pub returns : goal.returns
returns c = codes_meant
