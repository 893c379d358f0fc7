use Rattle.std.proofs.Common.{◌∙◌, arith}
use Rattle.ilsyms.proofs.SlotBounds.{pushed, full}
use Rattle.ilsyms.proofs.slots.add_slot.Goals as goal

pub returns-in_ok-push : goal.returns-in_ok-push
returns-in_ok-push c all e =
    c.in_ok-push.ensures.items
    ∙ pushed 4096 c.args.slots.now.items all e c.args.slot (omega (arith, c.len.ensures, c.if-len-le-MOST_SLOTS.true))

pub returns-else-len-le-MOST_SLOTS : goal.returns-else-len-le-MOST_SLOTS
returns-else-len-le-MOST_SLOTS c all e =
    full 4096 c.args.slots.now.items all e _ (omega (arith, c.len.ensures, c.if-len-le-MOST_SLOTS.false))
