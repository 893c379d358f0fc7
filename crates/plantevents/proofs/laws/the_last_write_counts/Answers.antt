use Rattle.plantevents.proofs.Writes.{last_write}
use Rattle.plantevents.proofs.laws.the_last_write_counts.Goals as goal

pub returns : goal.returns
returns c = last_write
