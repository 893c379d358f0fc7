use Rattle.std.proofs.Common.{◌≡◌, ◌++◌, take}
use Rattle.std.specs.Prelude.{flat_map}
use Rattle.livekeep.specs.KeptBlocks.{block_taken}
use Rattle.livekeep.proofs.left_out.take_blocks.Given as goal

abbrev pub invariant-loop-block : goal.invariant-loop-block
invariant-loop-block l =
    l.taken.items ≡ l.fn.taken.items ++ flat_map (block_taken l.plan l.kept.values) (take l.block-index l.block-items)
