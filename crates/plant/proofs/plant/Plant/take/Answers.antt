use Rattle.std.proofs.Common.{◌≡◌, ◌<◌, ◌∷◌, false, None, sym, subst}
use Rattle.ilmachine.specs.Snapshots.{ScanStart}
use Rattle.plantevents.specs.declared.event.Event.TheVariants.{Take}
use Rattle.plantevents.specs.Histories.{scan}
use Rattle.plantevents.specs.Choices.{IsNextTask}
use Rattle.plantevents.specs.Variables.{IsSnapshot}
use Rattle.plantevents.specs.Legal.{IsTake}
use Rattle.plantbuses.specs.KeptSteps.{ScansFollow}
use Rattle.plant.specs.Shown.{Shown, is_full, plant_of}
use Rattle.plant.proofs.Taking.{take_room, take_says}
use Rattle.plant.proofs.plant.Plant.take.Goals as goal

pub note_take-requires-clause-few : goal.note_take-requires-clause-few
note_take-requires-clause-few c =
    let t = c.in_ok-task.task in
    let next = subst (λ (p : Shown). IsNextTask p.plant p.history t) (sym c.self.view_is) c.in_ok-task.ensures.next in
    take_room _ _ t c.self.invariant next.known

pub invariant_of-self : goal.invariant_of-self
invariant_of-self c =
    let p = c.self.inside in let says = c.self.invariant in let plant = plant_of p.setup p.workers in
    let h = p.history.items in let w = c.args.worker in let t = c.in_ok-task.task in
    let snapshot = c.in_ok-snapshot.snapshot in
    let idle = subst (λ (p : Shown). (w < p.plant.workers) × (scan w p.history ≡ None) × (is_full p ≡ false))
    (sym c.self.view_is) c.in_ok-task.ensures.idle in
    let next = subst (λ (p : Shown). IsNextTask p.plant p.history t) (sym c.self.view_is) c.in_ok-task.ensures.next in
    let taken = subst (λ (p : Shown). IsSnapshot p.plant t p.history snapshot) (sym c.self.view_is)
    c.in_ok-snapshot.ensures in
    let may : IsTake plant h w t snapshot = record { known = idle.0; idle = idle.1; next = next; snapshot = taken } in
    let opened = subst (λ (s : ScanStart). ScansFollow plant (Take w t s ∷ h) c.note_scan.new.scans.items)
    c.of-began.ensures (c.note_scan.ensures plant h says.each_worker says.place) in
    rw (c.push.ensures, c.of-noted.ensures) (take_says _ _ w t snapshot _ _ _ says may idle.2
    (c.take_event.ensures.follows plant w snapshot h says.each_task says.place)
    (c.note_take.ensures plant w snapshot h says.each_take) opened)
