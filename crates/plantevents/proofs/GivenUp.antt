-- An event is given up where 32 later ones came.
use Rattle.std.proofs.Common.{◌≡◌, ℕ, ◌+◌, ◌≤◌, Bool, true, false, not, ◌&&◌, List, [], ◌∷◌, ◌++◌, length, Some}
use Rattle.std.proofs.Common.{refl, ap, ◌∙◌, arith, length-append, length-drop}
use Rattle.std.proofs.lemmas.Bool.{ltb-true, ltb-false}
use Rattle.std.specs.Prelude.{◌↔◌, if◌then◌else◌, nat_lt}
use Rattle.dalievent.specs.declared.messages.EventSource.{EventSource}
use Rattle.plantevents.specs.declared.activator.PendingEvent.{PendingEvent}
use Rattle.plantevents.specs.declared.activator.Activator.TheVariants.{Messages}
use Rattle.plantevents.specs.declared.event.Event.{Event}
use Rattle.plantevents.specs.declared.event.Event.TheVariants.{Heard}
use Rattle.plantevents.specs.Plants.{Plant, activator}
use Rattle.plantevents.specs.Histories.{scans}
use Rattle.plantevents.specs.Readiness.{most_pending, activates, pending_event, pending, lost}
use Rattle.plantevents.specs.Arrivals.{arrivals, GivesUp}
use Rattle.plantevents.specs.Legal.{AreLegal}
use Rattle.plantevents.proofs.Arriving.{AreLeft, left_in, few_pending}

-- by whether the frame activates the task, and whether fewer than 32 are pending
counted : (arrived left : List PendingEvent) (gone before : ℕ) (new : PendingEvent) (x y : Bool)
    → AreLeft arrived left gone → length left ≤ most_pending → nat_lt (length left) most_pending ≡ y
    → ((if x && not y then before + 1 else before) ≡ before + 1)
    ↔ ((x ≡ true) × (length (if x then arrived ++ new ∷ [] else arrived) ≡ gone + 1 + most_pending))
counted arrived left gone before new false y are most is =
    (λ k. absurd (omega (arith, k)), λ k. let no : false ≡ true = k.0 in absurd (cc))
counted arrived left gone before new true true are most is =
    let fewer = ltb-true (length left) most_pending is in
    let count = ap length are.are ∙ length-drop gone arrived in
    let more = length-append arrived (new ∷ []) in
    (λ k. absurd (omega (arith, k)), λ k. let all = k.1 in absurd (omega arith))
counted arrived left gone before new true false are most is =
    let least = ltb-false (length left) most_pending is in
    let count = ap length are.are ∙ length-drop gone arrived in
    let more = length-append arrived (new ∷ []) in
    let within = are.within in
    (λ k. (refl, omega arith), λ k. refl)

pub given_up : (p : Plant) (bus first : ℕ) (source : EventSource) (t b f : ℕ) (h : List Event)
    → activator p t ≡ Some (Messages bus source first) → AreLegal p h
    → (lost (Some (Messages bus source first)) t (Heard b f ∷ h) ≡ lost (Some (Messages bus source first)) t h + 1)
    ↔ GivesUp (Some (Messages bus source first)) t b f h
given_up p bus first source t b f h is legal =
    let a = Some (Messages bus source first) in
    counted (arrivals a h) (pending a t h) (lost a t h + scans t h) (lost a t h) (pending_event a b f h)
    (activates a b f) _ (left_in p bus first source t h is legal) (few_pending a t h) refl
