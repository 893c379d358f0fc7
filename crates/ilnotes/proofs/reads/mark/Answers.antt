use Rattle.std.proofs.Common.{sym, ◌∙◌}
use Rattle.ilnotes.proofs.ReadSlots.{marks_none, marks_past, marks_slot}
use Rattle.ilnotes.proofs.reads.mark.Goals as goal

pub returns-in_default : goal.returns-in_default
returns-in_default c = marks_none c.args.used.now c.args.read.now (sym c.in_default.is ∙ c.slot_read.ensures)

pub returns-then-slot-read : goal.returns-then-slot-read
returns-then-slot-read c =
    marks_slot c.args.used.now c.args.read.now c.in-Some.slot (sym c.in-Some.is ∙ c.slot_read.ensures)
    c.if-slot-read.true

pub returns-else-slot-read : goal.returns-else-slot-read
returns-else-slot-read c =
    marks_past c.args.used.now c.args.read.now c.in-Some.slot (sym c.in-Some.is ∙ c.slot_read.ensures)
    c.if-slot-read.false
