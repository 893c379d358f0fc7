use Rattle.std.proofs.Common.{◌∙◌, ◌++◌, List, ℕ, ap}
use Rattle.plantevents.specs.Parts.{shown_heard}
use Rattle.plantreceipts.specs.Receipts.{whole}
use Rattle.refusalsplant.proofs.bus_turns.heard_frames_have_receipts.Goals as goal

pub returns : goal.returns
returns g c =
    c.hear_turn.ensures.served.heard
    ∙ ap (λ (heard : List ℕ). heard ++ shown_heard (whole c.hear_turn.new.served.share)) c.requires.none
