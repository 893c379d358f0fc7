use Rattle.std.proofs.Common.{◌≡◌, take, map}
use Rattle.livekeep.specs.KeptPlans.{task_first}
use Rattle.livekeep.proofs.first_values.tasks_first.Given as goal

abbrev pub invariant-loop-task : goal.invariant-loop-task
invariant-loop-task l =
    l.tasks.items ≡ map (task_first l.plan l.kept.values) (take l.task l.plan.tasks)
