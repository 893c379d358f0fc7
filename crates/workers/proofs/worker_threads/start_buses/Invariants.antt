use Rattle.std.proofs.Common.{◌≡◌, ◌+◌, length}
use Rattle.std.specs.Prelude.{vec_len, vec_capacity}
use Rattle.workers.specs.WorkerThreads.{AreStartedBuses}
use Rattle.workers.specs.LinkedShares.{AreServed}
use Rattle.workers.proofs.worker_threads.start_buses.Given as goal

abbrev pub invariant-loop-bus : goal.invariant-loop-bus
invariant-loop-bus g l =
    AreServed g.J.Links.buses g.B.Bus.log l.bus l.buses.items
    × AreStartedBuses g.J.Links.buses g.B.Bus.log l.started.items
    × (l.bus + length l.buses.items ≡ vec_len l.fn.buses)
    × (length l.started.items ≡ l.bus)
    × (vec_capacity l.buses ≡ vec_capacity l.fn.buses)
    × (vec_capacity l.started ≡ vec_capacity l.fn.started)
