use Rattle.std.proofs.Common.{ℕ, ◌<◌, slice_index_or}
use Rattle.buslink.specs.declared.marks.Mark.{Mark}
use Rattle.buslink.specs.Marks.{IsBroken}
use Rattle.buslink.proofs.reports.attempt_end.Given as goal

-- no mark so far is broken, and there are fewer of them than frames
abbrev pub invariant-loop-i : goal.invariant-loop-i
invariant-loop-i l =
    (l.i < l.count) × ((k : ℕ) (d : Mark) → k < l.i → ¬ IsBroken (slice_index_or l.marks k d))
