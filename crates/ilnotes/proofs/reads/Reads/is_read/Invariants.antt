use Rattle.std.proofs.Common.{ℕ, ◌<◌}
use Rattle.ilnotes.specs.Planned.{ReadsVariable}
use Rattle.ilnotes.proofs.reads.Reads.is_read.Given as goal

abbrev pub invariant-loop-task : goal.invariant-loop-task
invariant-loop-task l = (k : ℕ) → k < l.task → ¬ ReadsVariable l.self l.number k
