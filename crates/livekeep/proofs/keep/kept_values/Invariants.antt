use Rattle.std.proofs.Common.{◌≡◌, ◌++◌, drop}
use Rattle.livekeep.specs.KeptStates.{entries_of, tasks_entries}
use Rattle.livekeep.proofs.keep.kept_values.Given as goal

-- what is kept so far, and what is kept of the tasks that are left
abbrev pub invariant-loop-task : goal.invariant-loop-task
invariant-loop-task l =
    l.kept.items ++ tasks_entries l.plan.text (drop l.task l.plan.tasks) (drop l.task l.tasks)
    ≡ entries_of l.plan l.globals l.tasks
