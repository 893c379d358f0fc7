use Rattle.plantevents.proofs.Arriving.{few_pending, pending_in_order}
use Rattle.plantevents.proofs.Pending.{all_pending_events}
use Rattle.plantevents.proofs.laws.what_is_pending.Goals as goal

pub returns-clause-each : goal.returns-clause-each
returns-clause-each c = all_pending_events

pub returns-clause-order : goal.returns-clause-order
returns-clause-order c = pending_in_order

pub returns-clause-few : goal.returns-clause-few
returns-clause-few c = few_pending
