use Rattle.plantevents.specs.declared.role.Role.TheVariants.{Worker}
use Rattle.plantreceipts.specs.Receipts.{AreFresh}
use Rattle.plantreceipts.specs.Seats.{AreCounted, AreUnused}
use Rattle.plantreceipts.proofs.shares.worker_shares.Given as goal

abbrev pub invariant-loop-worker : goal.invariant-loop-worker
invariant-loop-worker g l =
    AreFresh g.J.LockStart.start Worker l.worker l.shares.items
    × AreUnused g.T.Tally.seat g.T.Tally.amount l.worker l.thread_tallies.items
    × AreCounted g.J.LockStart.start (g.K.Tallies.number l.tallies) l.worker
