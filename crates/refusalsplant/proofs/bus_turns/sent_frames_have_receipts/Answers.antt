use Rattle.std.proofs.Common.{◌∙◌, ◌++◌, List, ap}
use Rattle.buslink.specs.declared.marks.Sent.{Sent}
use Rattle.plantevents.specs.Parts.{shown_sent}
use Rattle.plantreceipts.specs.Receipts.{whole}
use Rattle.refusalsplant.proofs.bus_turns.sent_frames_have_receipts.Goals as goal

pub returns : goal.returns
returns g c =
    c.send_turn.ensures.served.sent
    ∙ ap (λ (sent : List Sent). sent ++ shown_sent (whole c.send_turn.new.served.share)) c.requires.none
