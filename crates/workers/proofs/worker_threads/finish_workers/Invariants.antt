use Rattle.std.proofs.Common.{◌≡◌, ◌+◌, length}
use Rattle.plantturns.specs.Each.{Each}
use Rattle.std.specs.Prelude.{vec_len, vec_capacity}
use Rattle.workers.specs.Started.{IsStartedScans}
use Rattle.workers.specs.LinkedShares.{AreWorkers}
use Rattle.workers.proofs.worker_threads.finish_workers.Given as goal

abbrev pub invariant-loop-worker : goal.invariant-loop-worker
invariant-loop-worker g l =
    Each IsStartedScans l._worker l.started.items
    × AreWorkers 0 l.workers.items
    × (l._worker + length l.started.items ≡ vec_len l.fn.started)
    × (length l.workers.items ≡ l._worker)
    × (vec_capacity l.workers ≡ vec_capacity l.fn.workers)
