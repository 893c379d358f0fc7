use Rattle.plantevents.proofs.Dropping.{accepted_or_dropped}
use Rattle.plantevents.proofs.laws.requests_are_accepted_or_dropped.Goals as goal

pub returns : goal.returns
returns c = accepted_or_dropped
