use Rattle.std.proofs.Common.{ℕ, ◌<◌}
use Rattle.textanswers.specs.Answered.{IsCalled}
use Rattle.textanswers.proofs.answers.task_number.Given as goal

abbrev pub invariant-loop-task : goal.invariant-loop-task
invariant-loop-task l = (k : ℕ) → k < l.task → ¬ IsCalled l.plan l.name k
