use Rattle.plantbuses.proofs.Starting.{idle_more}
use Rattle.plantbuses.proofs.running.idle_workers.Goals as goal

pub loop-preserved : goal.loop-preserved
loop-preserved c = rw c.in_ok-push.ensures.items (idle_more c.loop.scans.items c.loop.counter c.loop.invariant)
