use Rattle.std.proofs.Common.{ℕ, ◌<◌, ◌≤◌, length}
use Rattle.std.specs.Prelude.{slice_index}
use Rattle.readytasks.specs.TaskSetSteps.{rank_at}
use Rattle.readytasks.specs.ReadyLists.{Leads}
use Rattle.readytasks.proofs.ready_list.place_for.Given as goal

abbrev pub invariant-loop-place : goal.invariant-loop-place
invariant-loop-place l = record {
  within : l.place ≤ length l.ready;
  before : (k : ℕ) → l.place ≤ k → k < length l.ready
      → Leads (rank_at l.states l.task) (rank_at l.states (slice_index l.ready k));
}

abbrev pub decreases-loop-place : goal.decreases-loop-place
decreases-loop-place l = l.place
