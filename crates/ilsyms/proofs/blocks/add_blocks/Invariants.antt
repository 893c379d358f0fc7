use Rattle.std.proofs.Common.{◌≡◌, ◌+◌, ◌++◌, List, map, take}
use Rattle.limits.specs.Limits.{most_blocks}
use Rattle.ilplan.specs.declared.instance.FunctionBlock.{FunctionBlock}
use Rattle.ilsyms.specs.Variables.{function_block}
use Rattle.ilsyms.proofs.blocks.add_blocks.Given as goal

abbrev pub invariant-loop-block : goal.invariant-loop-block
invariant-loop-block l =
    (all : List FunctionBlock) → l.initial.blocks.items ≡ take (most_blocks + 1) all
    → l.blocks.items ≡ take (most_blocks + 1)
    (all ++ map (function_block l.instance) (take l.block-index l.block-items))
