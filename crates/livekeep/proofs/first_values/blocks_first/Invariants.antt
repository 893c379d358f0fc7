use Rattle.std.proofs.Common.{◌≡◌, take, map}
use Rattle.livekeep.specs.KeptBlocks.{block_first}
use Rattle.livekeep.proofs.first_values.blocks_first.Given as goal

abbrev pub invariant-loop-block : goal.invariant-loop-block
invariant-loop-block l =
    l.blocks.items ≡ map (block_first l.plan l.kept.values) (take l.block-index l.block-items)
