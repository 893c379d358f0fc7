use Rattle.plantevents.proofs.Counts.{from_zero, goes_on}
use Rattle.plantevents.proofs.laws.counts_go_on.Goals as goal

pub returns-clause-after : goal.returns-clause-after
returns-clause-after c = goes_on

pub returns-clause-from_zero : goal.returns-clause-from_zero
returns-clause-from_zero c = from_zero
