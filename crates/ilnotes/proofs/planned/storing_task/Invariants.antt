use Rattle.std.proofs.Common.{ℕ, ◌<◌}
use Rattle.ilnotes.specs.Planned.{StoresTo}
use Rattle.ilnotes.proofs.planned.storing_task.Given as goal

abbrev pub invariant-loop-task : goal.invariant-loop-task
invariant-loop-task l = (k : ℕ) → k < l.task → ¬ StoresTo l.plan l.number k
