use Rattle.std.proofs.Common.{ℕ, ◌<◌}
use Rattle.plantplay.specs.Expected.{IsMetAt}
use Rattle.plantplay.proofs.meeting.is_met.Given as goal

abbrev pub invariant-loop-global : goal.invariant-loop-global
invariant-loop-global l = (k : ℕ) → k < l.global → ¬ IsMetAt l.plant l.expected k
