use Rattle.std.proofs.Common.{◌≡◌, true, ℕ, ◌<◌, get_or}
use Rattle.readytasks.specs.TaskSets.{task_at}
use Rattle.readytasks.proofs.choice.choose.Given as goal

abbrev pub invariant-loop-task : goal.invariant-loop-task
invariant-loop-task l = (k : ℕ) → k < l.task-index → (task_at l.states (get_or l.ready k 0)).is_scanned ≡ true
