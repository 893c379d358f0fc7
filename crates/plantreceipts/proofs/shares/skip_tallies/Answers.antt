use Rattle.std.proofs.Common.{◌≡◌, ◌+◌, ◌<◌, arith, subst}
use Rattle.limits.specs.Limits.{most_seats}
use Rattle.plantreceipts.specs.Seats.{AreUnused}
use Rattle.plantreceipts.proofs.shares.skip_tallies.Goals as goal

pub next_tally-unused-requires : goal.next_tally-unused-requires
next_tally-unused-requires g c =
    let r = c.requires in
    let few : r.0 + c.loop-seat._seat < most_seats = let low = r.1 in omega (arith, low, c.loop-seat-test.true) in
    (r.0 + c.loop-seat._seat, few, c.loop-seat.invariant r.0 r.1 r.2)

pub loop-seat-preserved : goal.loop-seat-preserved
loop-seat-preserved g c n low unused =
    let i = c.loop-seat._seat in
    let few : n + i < most_seats = omega (arith, low, c.loop-seat-test.true) in
    let same : n + i + 1 ≡ n + (i + 1) = omega arith in
    subst (λ m. AreUnused g.T.Tally.seat g.T.Tally.amount m c.next_tally-unused.new.thread_tallies.items) same
    (c.next_tally-unused.ensures (n + i) few (c.loop-seat.invariant n low unused)).rest

pub returns : goal.returns
returns g c n low unused =
    let same : n + c.loop-seat._seat ≡ n + c.args.seats =
    let end = c.loop-seat.auto._seat-end in omega (arith, end, c.loop-seat-test.false) in
    subst (λ m. AreUnused g.T.Tally.seat g.T.Tally.amount m c.loop-seat.thread_tallies.items) same
    (c.loop-seat.invariant n low unused)
