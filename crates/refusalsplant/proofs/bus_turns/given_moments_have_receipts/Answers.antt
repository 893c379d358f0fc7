use Rattle.std.proofs.Common.{◌∙◌, ◌++◌, List, ℕ, ap}
use Rattle.plantevents.specs.Parts.{shown_given}
use Rattle.plantreceipts.specs.Receipts.{whole}
use Rattle.refusalsplant.proofs.bus_turns.given_moments_have_receipts.Goals as goal

pub returns : goal.returns
returns g c =
    c.tick_once.ensures.timed.given
    ∙ ap (λ (given : List ℕ). given ++ shown_given (whole c.tick_once.new.timed.share)) c.requires.none
