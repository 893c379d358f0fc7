use Rattle.plantload.proofs.KeptSetups.{kept_codes_meant}
use Rattle.plantload.proofs.laws.kept_runs_are_as_meant.Goals as goal

pub returns : goal.returns
returns c = kept_codes_meant
