use Rattle.std.proofs.Common.{◌≡◌, ◌∷◌, ◌++◌, List, map}
use Rattle.gearcmd.specs.FrameLists.{FrameList}
use Rattle.plantevents.specs.declared.event.Event.{Event}
use Rattle.plantevents.specs.declared.event.Event.TheVariants.{Hand}
use Rattle.plantevents.specs.declared.event.Origin.{Origin}
use Rattle.plantdriving.specs.Driven.{IsHeardFirst}
use Rattle.refusalsplant.proofs.Results.{on_ok}
use Rattle.refusalsplant.proofs.SentInTurn.{nothing_waits_below}
use Rattle.refusalsplant.proofs.links.bus_0_sends_before_bus_1.Goals as goal

pub returns : goal.returns
returns g c =
    let p = c.args.plant.now in
    let q = c.settle.new.plant in
    let before = map g.B.Bus.log c.args.lines.now.items in
    let after = map g.B.Bus.log c.settle.new.lines.items in
    on_ok (IsHeardFirst p q before after)
    ((origin : Origin) (sent : FrameList) (later : List Event)
    → ¬ (q.history ≡ later ++ Hand 1 origin sent ∷ p.history)) c.settle.result
    c.settle.ensures.heard
    (λ first. λ origin sent later is.
    c.requires.waits (nothing_waits_below p q before after first c.requires.known origin sent later is))
