use Rattle.plantevents.proofs.Scanning.{scanned_law}
use Rattle.plantevents.proofs.laws.what_is_scanned.Goals as goal

pub returns : goal.returns
returns c = scanned_law
