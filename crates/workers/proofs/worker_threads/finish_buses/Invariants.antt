use Rattle.std.proofs.Common.{◌≡◌, ◌+◌, length}
use Rattle.plantturns.specs.Each.{Each}
use Rattle.std.specs.Prelude.{vec_len, vec_capacity}
use Rattle.workers.specs.Started.{IsStartedBus}
use Rattle.workers.specs.LinkedShares.{AreServed}
use Rattle.workers.proofs.worker_threads.finish_buses.Given as goal

abbrev pub invariant-loop-bus : goal.invariant-loop-bus
invariant-loop-bus g l =
    Each (IsStartedBus g.J.Links.buses g.B.Bus.log) l._bus l.started.items
    × AreServed g.J.Links.buses g.B.Bus.log 0 l.buses.items
    × (l._bus + length l.started.items ≡ vec_len l.fn.started)
    × (length l.buses.items ≡ l._bus)
    × (vec_capacity l.buses ≡ vec_capacity l.fn.buses)
