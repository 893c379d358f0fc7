use Rattle.plantbuses.proofs.LocatedLevels.{made_more}
use Rattle.plant.specs.IndexSteps.{IsFromBus, from_none}
use Rattle.plant.proofs.index.inputs_of.Goals as goal

pub loop-bus-preserved : goal.loop-bus-preserved
loop-bus-preserved c =
    rw c.in_ok-push.ensures.items (made_more (IsFromBus c.args.plan.now) from_none c.loop-bus.bus
    c.loop-bus.inputs.items _ c.loop-bus.invariant c.in_ok-from_bus.ensures)
