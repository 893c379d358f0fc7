use Rattle.std.proofs.Common.{◌≡◌, take}
use Rattle.ilplan.specs.Beginnings.{each_with, slot_with}
use Rattle.ilplan.proofs.task.begin_slots.Given as goal

abbrev pub invariant-loop-i : goal.invariant-loop-i
invariant-loop-i l = l.slots.items ≡ each_with slot_with l.fn.slots.items (take l.i l.values)
