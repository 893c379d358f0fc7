use Rattle.plantbuses.proofs.LocatedLevels.{AreMade}
use Rattle.plant.specs.IndexSteps.{IsFromBus, from_none}
use Rattle.plant.proofs.index.inputs_of.Given as goal

abbrev pub invariant-loop-bus : goal.invariant-loop-bus
invariant-loop-bus l = AreMade (λ b x. IsFromBus l.plan b x) from_none l.bus l.inputs.items
