use Rattle.plantbuses.proofs.Starting.{fresh_more}
use Rattle.plantbuses.proofs.bus.fresh_buses.Goals as goal

pub loop-preserved : goal.loop-preserved
loop-preserved c =
    rw c.in_ok-push.ensures.items (fresh_more c.loop.states.items c.loop.counter _ c.loop.invariant c.in_ok-new.ensures)
