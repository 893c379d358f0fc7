use Rattle.std.proofs.Common.{◌≡◌, take, map}
use Rattle.livekeep.specs.KeptPlans.{slot_first}
use Rattle.livekeep.proofs.first_values.slots_first.Given as goal

abbrev pub invariant-loop-slot : goal.invariant-loop-slot
invariant-loop-slot l =
    l.values.items ≡ map (slot_first l.plan l.kept.values) (take l.slot-index l.slot-items)
