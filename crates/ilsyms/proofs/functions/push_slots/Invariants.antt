use Rattle.std.proofs.Common.{◌≡◌, ◌++◌, map, take}
use Rattle.ilsyms.specs.Variables.{own_slot}
use Rattle.ilsyms.proofs.functions.push_slots.Given as goal

abbrev pub invariant-loop-variable : goal.invariant-loop-variable
invariant-loop-variable l =
    l.slots.items ≡ l.initial.slots.items ++ map (own_slot l.instance) (take l.variable-index l.variables)
