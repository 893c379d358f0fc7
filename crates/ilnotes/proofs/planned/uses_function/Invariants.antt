use Rattle.std.proofs.Common.{ℕ, ◌<◌}
use Rattle.ilnotes.specs.Planned.{UsesFunctionIn}
use Rattle.ilnotes.proofs.planned.uses_function.Given as goal

abbrev pub invariant-loop-task : goal.invariant-loop-task
invariant-loop-task l = (k : ℕ) → k < l.task → ¬ UsesFunctionIn l.plan l.number k
