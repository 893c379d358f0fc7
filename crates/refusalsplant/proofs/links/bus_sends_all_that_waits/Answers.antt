use Rattle.std.proofs.Common.{◌≡◌, ℕ, ◌∷◌, ◌++◌, List, map}
use Rattle.gearcmd.specs.FrameLists.{FrameList}
use Rattle.buslink.specs.Attempts.{ReportParts}
use Rattle.plantevents.specs.declared.event.Event.{Event}
use Rattle.plantevents.specs.declared.event.Event.TheVariants.{Done, Hand}
use Rattle.plantevents.specs.declared.event.Origin.{Origin}
use Rattle.plantdriving.specs.Driven.{IsHeardFirst}
use Rattle.plantdriving.specs.Order.{with_events}
use Rattle.plantdriving.specs.Quiet.{HasNoHandout}
use Rattle.refusalsplant.proofs.Results.{on_ok}
use Rattle.refusalsplant.proofs.SentInTurn.{nothing_waits_then}
use Rattle.refusalsplant.proofs.links.bus_sends_all_that_waits.Goals as goal

pub returns : goal.returns
returns g c =
    let p = c.args.plant.now in
    let q = c.settle.new.plant in
    let before = map g.B.Bus.log c.args.lines.now.items in
    let after = map g.B.Bus.log c.settle.new.lines.items in
    on_ok (IsHeardFirst p q before after)
    ((number : ℕ) (report : ReportParts) (origin : Origin) (sent : FrameList) (later earlier : List Event)
    → q.history ≡ later ++ Hand 1 origin sent ∷ Done 0 number report ∷ (earlier ++ p.history)
    → HasNoHandout (with_events p (Done 0 number report ∷ earlier)) 0) c.settle.result
    c.settle.ensures.heard
    (λ first. λ number report origin sent later earlier is.
    nothing_waits_then p q before after first c.requires.known number report origin sent later earlier is)
