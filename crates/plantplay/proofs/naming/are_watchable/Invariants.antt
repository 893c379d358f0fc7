use Rattle.std.proofs.Common.{ℕ, ◌<◌, List, Bor, slice_index_or}
use Rattle.plantplay.specs.Watched.{IsWatchable}
use Rattle.plantplay.proofs.naming.are_watchable.Given as goal

abbrev pub invariant-loop-number : goal.invariant-loop-number
invariant-loop-number l =
    (k : ℕ) (d : Bor (List ℕ)) → k < l.number → IsWatchable l.plan (slice_index_or l.names k d).now
