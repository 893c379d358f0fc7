use Rattle.std.proofs.Common.{ℕ, ◌+◌, ◌≤◌}
use Rattle.limits.specs.Limits.{most_seats}
use Rattle.plantreceipts.specs.Seats.{AreUnused}
use Rattle.plantreceipts.proofs.shares.skip_tallies.Given as goal

abbrev pub invariant-loop-seat : goal.invariant-loop-seat
invariant-loop-seat g l =
    (n : ℕ) → n + l.fn.seats ≤ most_seats → AreUnused g.T.Tally.seat g.T.Tally.amount n l.fn.thread_tallies.items
    → AreUnused g.T.Tally.seat g.T.Tally.amount (n + l._seat) l.thread_tallies.items
