use Rattle.plantevents.proofs.Since.{since_law}
use Rattle.plantevents.proofs.laws.since_is_least.Goals as goal

pub returns : goal.returns
returns c = since_law
