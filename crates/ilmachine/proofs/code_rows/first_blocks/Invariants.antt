use Rattle.std.proofs.Common.{◌≡◌, map, take}
use Rattle.ilblocks.specs.Calls.{at_first}
use Rattle.ilmachine.proofs.code_rows.first_blocks.Given as goal

abbrev pub invariant-loop-kind : goal.invariant-loop-kind
invariant-loop-kind l = l.blocks.items ≡ map at_first (take l.kind-index l.kinds)
