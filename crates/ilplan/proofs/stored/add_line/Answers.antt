use Rattle.std.proofs.Common.{sym, ◌∙◌}
use Rattle.ilplan.proofs.StoredSlots.{adds_nothing, adds_slot, adds_past}
use Rattle.ilplan.proofs.stored.add_line.Goals as goal

pub returns-in_default : goal.returns-in_default
returns-in_default c =
    adds_nothing c.args.line.now c.args.stored.now (sym c.in_default.is ∙ c.stored_slot.ensures)

pub returns-then-slot-stored : goal.returns-then-slot-stored
returns-then-slot-stored c =
    let stored = sym c.in-Some.is ∙ c.stored_slot.ensures in
    adds_slot c.args.line.now c.args.stored.now c.in-Some.slot stored c.if-slot-stored.true

pub returns-else-slot-stored : goal.returns-else-slot-stored
returns-else-slot-stored c =
    let stored = sym c.in-Some.is ∙ c.stored_slot.ensures in
    adds_past c.args.line.now c.args.stored.now c.in-Some.slot stored c.if-slot-stored.false
