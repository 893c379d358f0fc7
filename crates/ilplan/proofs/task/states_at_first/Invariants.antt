use Rattle.std.proofs.Common.{◌≡◌, map, take}
use Rattle.ilblocks.specs.Calls.{at_first}
use Rattle.ilplan.proofs.task.states_at_first.Given as goal

abbrev pub invariant-loop-block : goal.invariant-loop-block
invariant-loop-block l = l.states.items ≡ map at_first (map (λ b. b.kind) (take l.block-index l.blocks))
