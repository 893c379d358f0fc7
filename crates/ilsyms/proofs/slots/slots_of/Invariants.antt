use Rattle.std.proofs.Common.{◌≡◌, ◌+◌, ◌++◌, take}
use Rattle.limits.specs.Limits.{most_slots}
use Rattle.ilsyms.specs.TaskSteps.{instances_of}
use Rattle.ilsyms.specs.Variables.{global_slots, own_slots}
use Rattle.ilsyms.proofs.slots.slots_of.Given as goal

abbrev pub invariant-loop-instance : goal.invariant-loop-instance
invariant-loop-instance l =
    l.slots.items
    ≡ take (most_slots + 1)
    (global_slots l.fn.scope.tree (instances_of l.fn.scope.tree l.fn.instances)
    ++ own_slots (take l.instance-index (instances_of l.fn.scope.tree l.fn.instances)))
