use Rattle.std.proofs.Common.{◌∙◌, ◌+◌, ◌++◌, List, ap, map, take, arith}
use Rattle.std.proofs.lemmas.List.{take_all}
use Rattle.ilplan.specs.declared.instance.FunctionBlock.{FunctionBlock}
use Rattle.ildeclared.specs.declared.block.DeclaredBlock.{DeclaredBlock}
use Rattle.ilsyms.specs.Variables.{function_block}
use Rattle.ilsyms.proofs.SlotBounds.{full, mapped_more}
use Rattle.ilsyms.proofs.blocks.add_blocks.Goals as goal

pub returns-then-len-gt-MOST_BLOCKS : goal.returns-then-len-gt-MOST_BLOCKS
returns-then-len-gt-MOST_BLOCKS c all e = full 256 c.args.blocks.now.items all e _
    (omega (arith, c.len.ensures, c.if-len-gt-MOST_BLOCKS.true))

pub loop-block-preserved : goal.loop-block-preserved
loop-block-preserved c all e =
    c.in_ok-add_block.ensures _ (c.loop-block.invariant all e)
    ∙ ap (λ (xs : List FunctionBlock). take (256 + 1) xs)
    (mapped_more (function_block c.args.instance) all c.blocks-block-items.result.now c.loop-block.block-index _
    c.loop-block-test.true)

pub returns : goal.returns
returns c all e =
    c.loop-block.invariant all e
    ∙ ap (λ (xs : List DeclaredBlock). take (256 + 1) (all ++ map (function_block c.args.instance) xs))
    (take_all c.loop-block.block-index c.blocks-block-items.result.now c.loop-block-test.false
    ∙ c.blocks-block-items.ensures.value)
