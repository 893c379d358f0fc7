-- The information of pending events has 10 bits.
use Rattle.std.proofs.Common.{◌≡◌, ℕ, ◌+◌, ◌-◌, ◌≤◌, ⊎_elim, Bool, true, false, eqb, ◌&&◌, List, [], ◌∷◌}
use Rattle.std.proofs.Common.{◌++◌, drop, Option, Some, None, refl, subst, arith}
use Rattle.std.proofs.lemmas.Grind.{common_steps}
use Rattle.std.specs.Prelude.{if◌then◌else◌, nat_lt, nat_le}
use Rattle.circular_buffer.specs.Buffer.{keep_last}
use Rattle.plantevents.specs.declared.activator.PendingEvent.{PendingEvent}
use Rattle.plantevents.specs.declared.activator.Activator.{Activator}
use Rattle.plantevents.specs.declared.activator.Activator.TheVariants.{Interval, Messages}
use Rattle.plantevents.specs.declared.event.Event.{Event}
use Rattle.plantevents.specs.declared.event.Event.TheVariants.{Tick, Heard, Take, Commit, Hand, Done, Down, Up}
use Rattle.dalievent.specs.Messages.{first_message}
use Rattle.plantevents.specs.Members.{Has}
use Rattle.plantevents.specs.Readiness.{activates, pending, pending_event, most_pending}
use Rattle.plantevents.proofs.Having.{has_drop, has_append}

within : (first f : ℕ) (here : Bool) → (here && (nat_le first f && nat_lt f (first + 1024))) ≡ true → f - first ≤ 1023
within first f here is = grind (arith, common_steps)

event_small : (a : Option Activator) (b f : ℕ) (h : List Event) → activates a b f ≡ true
    → (pending_event a b f h).information ≤ 1023
event_small None b f h is = absurd (cc)
event_small (Some (Interval milliseconds)) b f h is = absurd (cc)
event_small (Some (Messages bus source first)) b f h is = within (first_message source) f (eqb b bus) is

heard_small : (a : Option Activator) (b f t : ℕ) (h : List Event) (e : PendingEvent) (x : Bool) → activates a b f ≡ x
    → ((e : PendingEvent) → Has (pending a t h) e → e.information ≤ 1023)
    → Has (if x then keep_last most_pending (pending a t h ++ pending_event a b f h ∷ []) else pending a t h) e
    → e.information ≤ 1023
heard_small a b f t h e false is before has = before e has
heard_small a b f t h e true is before has =
    ⊎_elim (λ (old : Has (pending a t h) e). before e old)
    (λ (new : pending_event a b f h ≡ e). subst (λ (c : PendingEvent). c.information ≤ 1023) new
    (event_small a b f h is))
    (has_append _ _ e (has_drop _ _ e has))

took_small : (a : Option Activator) (t : ℕ) (h : List Event) (e : PendingEvent) (x : Bool)
    → ((e : PendingEvent) → Has (pending a t h) e → e.information ≤ 1023)
    → Has (if x then drop 1 (pending a t h) else pending a t h) e → e.information ≤ 1023
took_small a t h e true before has = before e (has_drop 1 _ e has)
took_small a t h e false before has = before e has

pub pending_small : (a : Option Activator) (t : ℕ) (h : List Event) (e : PendingEvent) → Has (pending a t h) e
    → e.information ≤ 1023
pending_small a t [] e (n, is) = absurd (cc)
pending_small a t (Tick m ∷ h) e has = pending_small a t h e has
pending_small a t (Heard b f ∷ h) e has = heard_small a b f t h e (activates a b f) refl (pending_small a t h) has
pending_small a t (Take w u s ∷ h) e has = took_small a t h e (eqb u t) (pending_small a t h) has
pending_small a t (Commit w n r ∷ h) e has = pending_small a t h e has
pending_small a t (Hand b s x ∷ h) e has = pending_small a t h e has
pending_small a t (Done b n r ∷ h) e has = pending_small a t h e has
pending_small a t (Down b ∷ h) e has = pending_small a t h e has
pending_small a t (Up b ∷ h) e has = pending_small a t h e has
