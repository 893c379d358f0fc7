use Rattle.std.proofs.Common.{◌≡◌, ℕ, ◌<◌, Some, slice_get}
use Rattle.plantreceipts.specs.Receipts.{ShareParts}
use Rattle.plantlock.specs.Tied.{IsMet}
use Rattle.plantlock.proofs.shared.meet_all.Given as goal

abbrev pub invariant-loop-k : goal.invariant-loop-k
invariant-loop-k g l =
    (l.shares.items ≡ l.fn.shares.items) × (l.locked ≡ l.fn.locked)
    × ((k : ℕ) (share : ShareParts) → k < l.k → slice_get l.fn.shares.items k ≡ Some share
    → IsMet g.J.LockStart.start.history share l.fn.locked.history)
