use Rattle.ilplan.specs.Plans.{all_lines}
use Rattle.ilplan.specs.UsageSteps.{AreFound}
use Rattle.ilsyms.specs.Resolved.{planned_functions, planned_instances}
use Rattle.ilsyms.specs.TaskSteps.{instances_of}
use Rattle.ilsyms.proofs.usage.used_functions.Given as goal

abbrev pub invariant-loop-number : goal.invariant-loop-number
invariant-loop-number l =
    let tree = l.fn.scope.tree in
    AreFound (all_lines (planned_instances tree (instances_of tree l.fn.instances))) (planned_functions tree) l.number
    l.used.items
