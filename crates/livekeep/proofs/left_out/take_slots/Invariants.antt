use Rattle.std.proofs.Common.{◌≡◌, ◌++◌, take}
use Rattle.std.specs.Prelude.{flat_map}
use Rattle.livekeep.specs.KeptPlans.{slot_taken}
use Rattle.livekeep.proofs.left_out.take_slots.Given as goal

abbrev pub invariant-loop-slot : goal.invariant-loop-slot
invariant-loop-slot l =
    l.taken.items ≡ l.fn.taken.items ++ flat_map (slot_taken l.text l.kept.values) (take l.slot-index l.slot-items)
