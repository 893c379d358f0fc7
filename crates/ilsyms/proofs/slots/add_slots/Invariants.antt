use Rattle.std.proofs.Common.{◌≡◌, ◌+◌, ◌++◌, List, map, take}
use Rattle.limits.specs.Limits.{most_slots}
use Rattle.ilplan.specs.declared.slot.Slot.{Slot}
use Rattle.ilsyms.specs.Variables.{own_slot}
use Rattle.ilsyms.proofs.slots.add_slots.Given as goal

abbrev pub invariant-loop-variable : goal.invariant-loop-variable
invariant-loop-variable l =
    (all : List Slot) → l.initial.slots.items ≡ take (most_slots + 1) all
    → l.slots.items ≡ take (most_slots + 1) (all ++ map (own_slot l.instance) (take l.variable-index l.variable-items))
