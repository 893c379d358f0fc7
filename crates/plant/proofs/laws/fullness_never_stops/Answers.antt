use Rattle.plant.proofs.Fullness.{full_after, full_with_place}
use Rattle.plant.proofs.laws.fullness_never_stops.Goals as goal

pub returns-clause-event : goal.returns-clause-event
returns-clause-event c = full_after

pub returns-clause-place : goal.returns-clause-place
returns-clause-place c = full_with_place
