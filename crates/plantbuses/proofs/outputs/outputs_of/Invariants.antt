use Rattle.plantbuses.specs.OutputSteps.{planned}
use Rattle.plantbuses.proofs.LocatedLevels.{AreOutputsFrom}
use Rattle.plantbuses.proofs.outputs.outputs_of.Given as goal

abbrev pub invariant-loop-global : goal.invariant-loop-global
invariant-loop-global l = AreOutputsFrom (planned l.plan) l.global l.outputs.items
