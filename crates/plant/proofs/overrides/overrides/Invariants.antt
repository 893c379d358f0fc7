use Rattle.std.proofs.Common.{ℕ, ◌<◌}
use Rattle.std.specs.Prelude.{All, slice_index_or}
use Rattle.plant.specs.TakingSteps.{IsInType}
use Rattle.plant.proofs.Overriding.{HasEither, HasEvent}
use Rattle.plant.proofs.overrides.overrides.Given as goal

abbrev pub invariant-loop-i : goal.invariant-loop-i
invariant-loop-i l = record {
  either : (g : ℕ) → HasEither l.plan l.bus l.number l.event l.given.items g;
  done : (j : ℕ) → j < l.i
      → HasEvent l.plan l.bus l.number l.event l.given.items (slice_index_or l.inputs j 0);
  typed : All (IsInType l.plan) l.given.items;
}
