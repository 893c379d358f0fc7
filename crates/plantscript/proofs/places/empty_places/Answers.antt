use Rattle.plantscript.proofs.Empty.{empty_more}
use Rattle.plantscript.proofs.places.empty_places.Goals as goal

pub loop-preserved : goal.loop-preserved
loop-preserved g c = rw c.in_ok-push.ensures.items (empty_more c.loop.places.items c.loop.counter c.loop.invariant)
