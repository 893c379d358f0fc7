use Rattle.std.proofs.Common.{◌≡◌, ◌+◌, length}
use Rattle.std.specs.Prelude.{vec_len, vec_capacity}
use Rattle.workers.specs.WorkerThreads.{AreStartedScans}
use Rattle.workers.specs.LinkedShares.{AreWorkers}
use Rattle.workers.proofs.worker_threads.start_workers.Given as goal

abbrev pub invariant-loop-worker : goal.invariant-loop-worker
invariant-loop-worker g l =
    AreWorkers l.worker l.workers.items
    × AreStartedScans l.started.items
    × (l.worker + length l.workers.items ≡ vec_len l.fn.workers)
    × (length l.started.items ≡ l.worker)
    × (vec_capacity l.workers ≡ vec_capacity l.fn.workers)
    × (vec_capacity l.started ≡ vec_capacity l.fn.started)
