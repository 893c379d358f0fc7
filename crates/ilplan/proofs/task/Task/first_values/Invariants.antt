use Rattle.std.proofs.Common.{◌≡◌, map, take}
use Rattle.ilplan.specs.Plans.{first_value}
use Rattle.ilplan.proofs.task.Task.first_values.Given as goal

abbrev pub invariant-loop-slot : goal.invariant-loop-slot
invariant-loop-slot l = l.values.items ≡ map (first_value l.self) (take l.slot-index l.slot-items)
