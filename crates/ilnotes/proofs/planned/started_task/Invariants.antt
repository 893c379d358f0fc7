use Rattle.std.proofs.Common.{ℕ, ◌<◌}
use Rattle.ilnotes.specs.Planned.{IsStartedBy}
use Rattle.ilnotes.proofs.planned.started_task.Given as goal

abbrev pub invariant-loop-task : goal.invariant-loop-task
invariant-loop-task l = (k : ℕ) → k < l.task → ¬ IsStartedBy l.plan l.number k
