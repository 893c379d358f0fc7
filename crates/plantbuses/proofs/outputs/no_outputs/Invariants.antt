use Rattle.std.proofs.Common.{[]}
use Rattle.plantbuses.specs.OutputSteps.{AreFree}
use Rattle.plantbuses.proofs.LocatedLevels.{AreMade}
use Rattle.plantbuses.proofs.outputs.no_outputs.Given as goal

abbrev pub invariant-loop : goal.invariant-loop
invariant-loop l = AreMade (λ b xs. AreFree xs) [] l.counter l.outputs.items
