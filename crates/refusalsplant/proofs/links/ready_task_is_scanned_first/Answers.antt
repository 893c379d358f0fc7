use Rattle.std.proofs.Common.{◌≡◌, ℕ, ◌∷◌, ◌++◌, List, map}
use Rattle.gearcmd.specs.FrameLists.{FrameList}
use Rattle.plantevents.specs.declared.event.Event.{Event}
use Rattle.plantevents.specs.declared.event.Event.TheVariants.{Hand}
use Rattle.plantevents.specs.declared.event.Origin.{Origin}
use Rattle.plantdriving.specs.Driven.{IsHeardFirst}
use Rattle.refusalsplant.proofs.Results.{on_ok}
use Rattle.refusalsplant.proofs.SentInTurn.{no_task_ready}
use Rattle.refusalsplant.proofs.links.ready_task_is_scanned_first.Goals as goal

pub returns : goal.returns
returns g c =
    let p = c.args.plant.now in
    let q = c.settle.new.plant in
    let before = map g.B.Bus.log c.args.lines.now.items in
    let after = map g.B.Bus.log c.settle.new.lines.items in
    on_ok (IsHeardFirst p q before after)
    ((b : ℕ) (origin : Origin) (sent : FrameList) (later : List Event)
    → ¬ (q.history ≡ later ++ Hand b origin sent ∷ p.history)) c.settle.result
    c.settle.ensures.heard
    (λ first. λ b origin sent later is.
    c.requires.ready (no_task_ready p q before after first b origin sent later is))
