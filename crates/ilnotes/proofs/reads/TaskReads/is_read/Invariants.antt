use Rattle.std.proofs.Common.{ℕ, ◌<◌}
use Rattle.ilnotes.specs.Planned.{ReadsInSlot}
use Rattle.ilnotes.proofs.reads.TaskReads.is_read.Given as goal

abbrev pub invariant-loop-slot : goal.invariant-loop-slot
invariant-loop-slot l = (k : ℕ) → k < l.slot → ¬ ReadsInSlot l.number l.self k
