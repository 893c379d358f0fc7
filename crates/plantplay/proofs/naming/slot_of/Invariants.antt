use Rattle.std.proofs.Common.{ℕ, ◌<◌}
use Rattle.plantplay.specs.Watched.{IsSlotNamed}
use Rattle.plantplay.proofs.naming.slot_of.Given as goal

abbrev pub invariant-loop-slot : goal.invariant-loop-slot
invariant-loop-slot l = (k : ℕ) → k < l.slot → ¬ IsSlotNamed l.plan l.name l.task k
