use Rattle.std.proofs.Common.{◌≡◌, length, take, map}
use Rattle.std.specs.List.{AllByRecursion}
use Rattle.ilplan.specs.Plans.{KeepsLimits}
use Rattle.ilsyms.specs.Resolved.{planned_functions, planned_task}
use Rattle.ilsyms.specs.Tasks.{tasks_of}
use Rattle.ilsyms.proofs.plans.plan_tasks.Given as goal

abbrev pub invariant-loop-parts : goal.invariant-loop-parts
invariant-loop-parts l =
    record {
      many : length l.planned.items ≡ length l.yielded;
      tasks : l.planned.items ≡ map (planned_task l.fn.scope.tree) (take (length l.yielded) (tasks_of l.fn.scope.tree));
      limits : AllByRecursion (KeepsLimits (planned_functions l.fn.scope.tree)) l.planned.items;
    }
