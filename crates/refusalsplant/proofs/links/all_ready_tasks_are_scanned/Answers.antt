use Rattle.std.proofs.Common.{◌≡◌, ℕ, ◌∷◌, ◌++◌, List, map}
use Rattle.gearcmd.specs.FrameLists.{FrameList}
use Rattle.ilmachine.specs.Scans.{Scan}
use Rattle.plantevents.specs.declared.event.Event.{Event}
use Rattle.plantevents.specs.declared.event.Event.TheVariants.{Commit, Hand}
use Rattle.plantevents.specs.declared.event.Origin.{Origin}
use Rattle.plantdriving.specs.Driven.{IsHeardFirst}
use Rattle.plantdriving.specs.Order.{with_events}
use Rattle.plantdriving.specs.Quiet.{HasNoScan}
use Rattle.refusalsplant.proofs.Results.{on_ok}
use Rattle.refusalsplant.proofs.SentInTurn.{no_task_ready_then}
use Rattle.refusalsplant.proofs.links.all_ready_tasks_are_scanned.Goals as goal

pub returns : goal.returns
returns g c =
    let p = c.args.plant.now in
    let q = c.settle.new.plant in
    let before = map g.B.Bus.log c.args.lines.now.items in
    let after = map g.B.Bus.log c.settle.new.lines.items in
    on_ok (IsHeardFirst p q before after)
    ((w number b : ℕ) (made : Scan) (origin : Origin) (sent : FrameList) (later earlier : List Event)
    → q.history ≡ later ++ Hand b origin sent ∷ Commit w number made ∷ (earlier ++ p.history)
    → HasNoScan (with_events p (Commit w number made ∷ earlier))) c.settle.result
    c.settle.ensures.heard
    (λ first. λ w number b made origin sent later earlier is.
    no_task_ready_then p q before after first w number b made origin sent later earlier is)
