use Rattle.std.proofs.Common.{◌≡◌, ◌++◌, drop}
use Rattle.livekeep.specs.KeptStates.{slot_entries}
use Rattle.livekeep.proofs.keep.keep_slots.Given as goal

-- what is kept so far, and what is kept of the slots that are left
abbrev pub invariant-loop-i : goal.invariant-loop-i
invariant-loop-i l =
    l.kept.items ++ slot_entries l.text (drop l.i l.task.slots) (drop l.i l.values)
    ≡ l.fn.kept.items ++ slot_entries l.text l.task.slots l.values
