use Rattle.std.proofs.Common.{◌≡◌, take}
use Rattle.std.specs.List.{AllByRecursion}
use Rattle.ilsyms.specs.TaskPartSteps.{AreParts}
use Rattle.ilsyms.proofs.TaskPartLists.{instances_in}
use Rattle.ilsyms.proofs.task_parts.parts_of_tasks.Given as goal

abbrev pub invariant-loop-instances : goal.invariant-loop-instances
invariant-loop-instances l =
    record {
      tasks : instances_in l.all.items ≡ take l.instances-index l.tasks;
      each : AllByRecursion (AreParts l.fn.scope.tree) l.all.items;
    }
