use Rattle.std.proofs.Common.{◌≡◌, ◌+◌, take}
use Rattle.std.specs.Prelude.{filter_map}
use Rattle.std.specs.List.{enumerate_from}
use Rattle.limits.specs.Limits.{most_slots}
use Rattle.ilscope.specs.Configured.{globals_of}
use Rattle.ilsyms.specs.TaskSteps.{instances_of}
use Rattle.ilsyms.specs.Variables.{named_slot}
use Rattle.ilsyms.proofs.slots.slots_of_globals.Given as goal

abbrev pub invariant-loop-number : goal.invariant-loop-number
invariant-loop-number l =
    l.slots.items
    ≡ take (most_slots + 1)
    (filter_map (named_slot l.fn.scope.tree (instances_of l.fn.scope.tree l.fn.instances))
    (take l.number (enumerate_from 0 (globals_of l.fn.scope.tree))))
