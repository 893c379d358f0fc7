use Rattle.std.proofs.Common.{◌≡◌, take}
use Rattle.ilnotes.proofs.reads.reads_of_tasks.Given as goal

abbrev pub invariant-loop-task : goal.invariant-loop-task
invariant-loop-task l = l.tasks.items ≡ take l.task l.plan.tasks
