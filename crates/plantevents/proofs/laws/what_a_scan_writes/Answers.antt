use Rattle.plantevents.proofs.Writing.{what_is_written}
use Rattle.plantevents.proofs.laws.what_a_scan_writes.Goals as goal

pub returns : goal.returns
returns c = what_is_written
