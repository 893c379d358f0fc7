use Rattle.livejournal.proofs.TaskLists.{FitFirst}
use Rattle.livejournal.proofs.keep.tasks_of.Given as goal

-- what lasts of each task so far
abbrev pub invariant-loop-task : goal.invariant-loop-task
invariant-loop-task l = FitFirst l.plant.plant.plan.tasks l.task l.tasks.items
