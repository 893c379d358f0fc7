use Rattle.std.proofs.Common.{subst, sym}
use Rattle.plantreceipts.specs.Seats.{IsNextTally}
use Rattle.plantreceipts.proofs.Seating.{next_unused}
use Rattle.plantreceipts.proofs.shares.next_tally.Goals as goal

pub returns : goal.returns
returns g c n low unused =
    subst (λ left. IsNextTally g.T.Tally.seat g.T.Tally.amount n c.remove.result left) (sym c.remove.ensures.items)
    (next_unused g.T.Tally.seat g.T.Tally.amount n _ c.remove.result low unused c.remove.ensures.value)
