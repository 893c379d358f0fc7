use Rattle.std.proofs.Common.{◌≡◌, ℕ, ◌<◌, [], length}
use Rattle.std.specs.Prelude.{slice_index_or}
use Rattle.plant.specs.KeptSteps.{IsCount, source_in}
use Rattle.plant.proofs.first_counts.first_counts.Given as goal

abbrev pub invariant-loop-bound : goal.invariant-loop-bound
invariant-loop-bound l = record {
  count : length l.counts.items ≡ l.bound-index;
  each : (i : ℕ) → i < l.bound-index
      → IsCount l.plan.globals (source_in l.plan.sources i) [] (slice_index_or l.counts.items i 0);
}
