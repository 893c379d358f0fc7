use Rattle.std.proofs.Common.{[]}
use Rattle.plantbuses.specs.OutputSteps.{AreFree}
use Rattle.plantbuses.proofs.LocatedLevels.{made_more}
use Rattle.plantbuses.proofs.outputs.no_outputs.Goals as goal

pub loop-preserved : goal.loop-preserved
loop-preserved c =
    rw c.in_ok-push.ensures.items (made_more (λ b xs. AreFree xs) [] c.loop.counter c.loop.outputs.items _
    c.loop.invariant c.in_ok-no_levels.ensures)
