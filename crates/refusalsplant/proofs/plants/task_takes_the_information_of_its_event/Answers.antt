use Rattle.std.proofs.Common.{◌≡◌, ◌∙◌, ℕ, List, Option, Some, slice_get, refl, ap}
use Rattle.std.specs.Prelude.{option_and_then}
use Rattle.iltypes.specs.declared.value.Value.{Value}
use Rattle.ilplan.specs.declared.global.Location.{Location}
use Rattle.ilplan.specs.declared.global.Location.TheVariants.{Information, Trigger}
use Rattle.ilmachine.specs.Images.{ImageVariable, Global, variable_in}
use Rattle.ilmachine.specs.Snapshots.{ScanStart}
use Rattle.plantevents.specs.declared.activator.PendingEvent.{PendingEvent}
use Rattle.plantevents.specs.declared.event.Event.{Event}
use Rattle.plantevents.specs.Legal.{IsTake}
use Rattle.plantevents.specs.Plants.{Plant, activator, layout, location, trigger_of}
use Rattle.plantevents.specs.Readiness.{pending}
use Rattle.plantevents.specs.Variables.{newest, pending_value, snapshot_value, value, whole}
use Rattle.refusalsplant.proofs.Results.{if_ok}
use Rattle.refusalsplant.proofs.plants.task_takes_the_information_of_its_event.Goals as goal

own_value : (trigger place : Option Location) (first : Option PendingEvent) (event : PendingEvent) (before : Option Value)
    → trigger ≡ Some (Trigger 0 0) → place ≡ Some (Information 0 0) → first ≡ Some event → event.information ≡ 7
    → newest (pending_value trigger first place) before ≡ Some (whole 7)
own_value trigger place first event before is located oldest information =
    rw (is, located, oldest) (ap (λ (n : ℕ). Some (whole n)) information)

own_information : (p : Plant) (h : List Event) (event : PendingEvent) (t : ℕ) (s : ScanStart) → IsTake p h 0 t s
    → t ≡ 2 → trigger_of p 2 ≡ Some (Trigger 0 0) → location p 3 ≡ Some (Information 0 0)
    → variable_in (layout p) 2 1 ≡ Some (Global 3) → slice_get (pending (activator p 2) 2 h) 0 ≡ Some event
    → event.information ≡ 7 → slice_get s.lasting.slots 1 ≡ Some (whole 7)
own_information p h event t s take second trigger located slot oldest information =
    take.snapshot.values 1
    ∙ (ap (λ (u : ℕ). option_and_then (snapshot_value p u h) (variable_in (layout p) u 1)) second
    ∙ (ap (λ (v : Option ImageVariable). option_and_then (snapshot_value p 2 h) v) slot
    ∙ own_value (trigger_of p 2) (location p 3) (slice_get (pending (activator p 2) 2 h) 0) event (value p (Global 3) h)
    trigger located oldest information))

pub returns : goal.returns
returns c =
    let p = c.args.plant.now.plant in
    let h = c.args.plant.now.history in
    if_ok (λ order. IsTake p h 0 order.task order.work.snapshot)
    (λ order. order.task ≡ 2 → slice_get order.work.snapshot.lasting.slots 1 ≡ Some (whole 7)) c.take.result
    c.take.ensures.taken (λ order taken second. own_information p h c.args.event order.task order.work.snapshot taken second
    c.requires.trigger c.requires.located c.requires.slot c.requires.oldest c.requires.information)
