use Rattle.std.proofs.Common.{ℕ, below_more, ◌∙◌, arith}
use Rattle.plantbuses.specs.OwedSteps.{OwesAt}
use Rattle.plantbuses.proofs.owed.bus_owed.Goals as goal

pub loop-address-preserved : goal.loop-address-preserved
loop-address-preserved c = λ p b h outputs follows image class.
    below_more (λ (a : ℕ). OwesAt p b h c.note_level.new.owed class a) c.loop-address.address
    (λ a lt. c.note_level.ensures.others class a (omega arith) (λ e. absurd (omega arith))
    ∙ c.loop-address.invariant p b h outputs follows image class a lt)
    (c.note_level.ensures.here p b h class outputs follows image)
