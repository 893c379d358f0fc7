use Rattle.std.proofs.Common.{◌+◌}
use Rattle.limits.specs.Limits.{most_workers}
use Rattle.plantevents.specs.declared.role.Role.TheVariants.{Bus}
use Rattle.plantreceipts.specs.Receipts.{AreFresh}
use Rattle.plantreceipts.specs.Seats.{AreCounted, AreUnused}
use Rattle.plantreceipts.proofs.shares.bus_shares.Given as goal

abbrev pub invariant-loop-bus : goal.invariant-loop-bus
invariant-loop-bus g l =
    AreFresh g.J.LockStart.start Bus l.bus l.shares.items
    × AreUnused g.T.Tally.seat g.T.Tally.amount (most_workers + l.bus) l.thread_tallies.items
    × AreCounted g.J.LockStart.start (g.K.Tallies.number l.tallies) (most_workers + l.bus)
