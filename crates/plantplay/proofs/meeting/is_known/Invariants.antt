use Rattle.std.proofs.Common.{ℕ, ◌<◌}
use Rattle.plantplay.specs.Names.{IsNamed}
use Rattle.plantplay.proofs.meeting.is_known.Given as goal

abbrev pub invariant-loop-global : goal.invariant-loop-global
invariant-loop-global l = (k : ℕ) → k < l.global → ¬ IsNamed l.plan l.expected.name.now k
