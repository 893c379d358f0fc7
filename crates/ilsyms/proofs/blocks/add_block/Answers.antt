use Rattle.std.proofs.Common.{◌∙◌, arith}
use Rattle.ilsyms.proofs.SlotBounds.{pushed, full}
use Rattle.ilsyms.proofs.blocks.add_block.Goals as goal

pub returns-in_ok-push : goal.returns-in_ok-push
returns-in_ok-push c all e =
    c.in_ok-push.ensures.items
    ∙ pushed 256 c.args.blocks.now.items all e c.args.block (omega (arith, c.len.ensures, c.if-len-le-MOST_BLOCKS.true))

pub returns-else-len-le-MOST_BLOCKS : goal.returns-else-len-le-MOST_BLOCKS
returns-else-len-le-MOST_BLOCKS c all e =
    full 256 c.args.blocks.now.items all e _ (omega (arith, c.len.ensures, c.if-len-le-MOST_BLOCKS.false))
