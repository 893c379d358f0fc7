-- Each pending event is a message of its task's source, and has what the source had just after it.
use Rattle.std.proofs.Common.{◌≡◌, ◌≢◌, ⊎_elim, ℕ, Bool, true, false, ◌&&◌, eqb, eq-eqb, List, [], ◌∷◌, ◌++◌, drop}
use Rattle.std.proofs.Common.{Option, Some, None, refl, sym, ap, ◌∙◌, subst}
use Rattle.std.proofs.lemmas.Bool.Decides.{eqb_tells}
use Rattle.std.specs.Prelude.{if◌then◌else◌, ◌==◌, option_map, option_and_then}
use Rattle.circular_buffer.specs.Buffer.{keep_last}
use Rattle.dalievent.specs.declared.messages.EventSource.{EventSource}
use Rattle.ilplan.specs.declared.activation.Activation as activations
use Rattle.ilplan.specs.declared.activation.Activation.TheVariants.{Cyclic, Event as OnEvent}
use Rattle.ilplan.specs.declared.global.Location.TheVariants.{Trigger, Information, Count}
use Rattle.ilplan.specs.Plans.{PlannedTask}
use Rattle.ilmachine.specs.Images.{Global}
use Rattle.plantevents.specs.declared.activator.PendingEvent.{PendingEvent}
use Rattle.plantevents.specs.declared.activator.Activator.{Activator}
use Rattle.plantevents.specs.declared.activator.Activator.TheVariants.{Messages}
use Rattle.plantevents.specs.declared.event.Event.{Event}
use Rattle.plantevents.specs.declared.event.Event.TheVariants.{Tick, Heard, Take, Commit, Hand, Done, Down, Up}
use Rattle.dalievent.specs.Messages.{is_message, information}
use Rattle.plantevents.specs.Plants.{Plant, location, source_at, task_at, trigger_by, trigger_of, activator_by}
use Rattle.plantevents.specs.Plants.{activator, messages_at, first_count}
use Rattle.plantevents.specs.Histories.{message_count}
use Rattle.plantevents.specs.Readiness.{most_pending, activates, pending_event, pending}
use Rattle.plantevents.specs.Variables.{newest, value, whole, heard_write, speaker, information_by, count_by}
use Rattle.plantevents.specs.Members.{Has, IsPendingEvent}
use Rattle.plantevents.proofs.Having.{has_drop, has_append}

-- the message of a pending event
record IsBy (bus first : ℕ) (source : EventSource) (h : List Event) (a : PendingEvent) : Type 0 where
  later : List Event
  frame : ℕ
  front : List Event
  stands : h ≡ later ++ Heard bus frame ∷ front
  message : is_message source frame ≡ true
  is : pending_event (Some (Messages bus source first)) bus frame front ≡ a

later_by : (bus first : ℕ) (source : EventSource) (e : Event) (h : List Event) (a : PendingEvent) → IsBy bus first source h a
    → IsBy bus first source (e ∷ h) a
later_by bus first source e h a by =
    record {
      later = e ∷ by.later;
      frame = by.frame;
      front = by.front;
      stands = ap (λ k. e ∷ k) by.stands;
      message = by.message;
      is = by.is;
    }

parts : (x y : Bool) → (x && y) ≡ true → (x ≡ true) × (y ≡ true)
parts true true e = (refl, refl)
parts true false e = absurd (cc)
parts false y e = absurd (cc)

equal : (a b : ℕ) → eqb a b ≡ true → a ≡ b
equal a b e = ⊎_elim (λ (k : (eqb a b ≡ true) × (a ≡ b)). k.1) (λ (k : (eqb a b ≡ false) × (a ≢ b)).
    absurd (cc)) (eqb_tells a b)

by_frame : (bus first b f : ℕ) (source : EventSource) (h : List Event)
    → activates (Some (Messages bus source first)) b f ≡ true
    → IsBy bus first source (Heard b f ∷ h) (pending_event (Some (Messages bus source first)) b f h)
by_frame bus first b f source h is =
    let p = parts (b == bus) (is_message source f) is in
    subst (λ (c : ℕ). IsBy bus first source (Heard c f ∷ h) (pending_event (Some (Messages bus source first)) c f h)) (sym
    (equal b bus p.0))
    (record { later = []; frame = f; front = h; stands = refl; message = p.1; is = refl })

-- by whether the frame activates the task
heard_by : (bus first b f t : ℕ) (source : EventSource) (h : List Event) (a : PendingEvent) (x : Bool)
    → activates (Some (Messages bus source first)) b f ≡ x
    → (Has (pending (Some (Messages bus source first)) t h) a → IsBy bus first source h a)
    → Has (if x then keep_last most_pending (pending (Some (Messages bus source first)) t h
    ++ pending_event (Some (Messages bus source first)) b f h ∷ [])
    else pending (Some (Messages bus source first)) t h) a
    → IsBy bus first source (Heard b f ∷ h) a
heard_by bus first b f t source h a false is before has = later_by bus first source (Heard b f) h a (before has)
heard_by bus first b f t source h a true is before has =
    ⊎_elim (λ (old : Has (pending (Some (Messages bus source first)) t h) a).
    later_by bus first source (Heard b f) h a (before old))
    (λ (new : pending_event (Some (Messages bus source first)) b f h ≡ a).
    subst (λ (c : PendingEvent). IsBy bus first source (Heard b f ∷ h) c) new (by_frame bus first b f source h is))
    (has_append _ _ a (has_drop _ _ a has))

took_by : (bus first w u t : ℕ) (source : EventSource) (h : List Event) (a : PendingEvent) (x : Bool)
    → (Has (pending (Some (Messages bus source first)) t h) a → IsBy bus first source h a)
    → Has (if x then drop 1 (pending (Some (Messages bus source first)) t h) else pending (Some
    (Messages bus source first)) t h) a → IsBy bus first source h a
took_by bus first w u t source h a true before has = before (has_drop 1 _ a has)
took_by bus first w u t source h a false before has = before has

all_by : (bus first t : ℕ) (source : EventSource) (h : List Event) (a : PendingEvent)
    → Has (pending (Some (Messages bus source first)) t h) a → IsBy bus first source h a
all_by bus first t source [] a (n, is) = absurd (cc)
all_by bus first t source (Tick m ∷ h) a has = later_by bus first source (Tick m) h a (all_by bus first t source h a has)
all_by bus first t source (Heard b f ∷ h) a has =
    heard_by bus first b f t source h a (activates (Some (Messages bus source first)) b f) refl (all_by bus first t source h a) has
all_by bus first t source (Take w u s ∷ h) a has =
    later_by bus first source (Take w u s) h a (took_by bus first w u t source h a (u == t) (all_by bus first t source h a) has)
all_by bus first t source (Commit w n r ∷ h) a has = later_by bus first source (Commit w n r) h a (all_by bus first t source h a has)
all_by bus first t source (Hand b s x ∷ h) a has = later_by bus first source (Hand b s x) h a (all_by bus first t source h a has)
all_by bus first t source (Done b n r ∷ h) a has = later_by bus first source (Done b n r) h a (all_by bus first t source h a has)
all_by bus first t source (Down b ∷ h) a has = later_by bus first source (Down b) h a (all_by bus first t source h a has)
all_by bus first t source (Up b ∷ h) a has = later_by bus first source (Up b) h a (all_by bus first t source h a has)

-- ---- the values just after a message

speaker_is : (bus f : ℕ) (source : EventSource) → is_message source f ≡ true
    → speaker bus bus f (Some source) ≡ Some source
speaker_is bus f source is = let same : eqb bus bus ≡ true = eq-eqb bus bus refl in rw same (rw is refl)

pub information_after : (p : Plant) (g bus number f : ℕ) (source : EventSource) (h : List Event)
    → location p g ≡ Some (Information bus number)
    → source_at p bus number ≡ Some source → is_message source f ≡ true
    → value p (Global g) (Heard bus f ∷ h) ≡ Some (whole (information source f))
information_after p g bus number f source h there bound is =
    ap (λ o. newest (heard_write p bus f h o) (value p (Global g) h)) there
    ∙ (ap (λ s. newest (information_by f (speaker bus bus f s)) (value p (Global g) h)) bound
    ∙ ap (λ s. newest (information_by f s) (value p (Global g) h)) (speaker_is bus f source is))

pub count_after : (p : Plant) (g bus number f : ℕ) (source : EventSource) (h : List Event)
    → location p g ≡ Some (Count bus number)
    → source_at p bus number ≡ Some source → is_message source f ≡ true
    → value p (Global g) (Heard bus f ∷ h)
    ≡ Some (whole (message_count (first_count p.plan.globals bus number) bus source (Heard bus f ∷ h)))
count_after p g bus number f source h there bound is =
    let first = first_count p.plan.globals bus number in
    ap (λ o. newest (heard_write p bus f h o) (value p (Global g) h)) there
    ∙ (ap (λ s. newest (count_by first bus (Heard bus f ∷ h) (speaker bus bus f s)) (value p (Global g) h)) bound
    ∙ ap (λ s. newest (count_by first bus (Heard bus f ∷ h) s) (value p (Global g) h)) (speaker_is bus f source is))

-- ---- the activator of a task

-- the messages of a source, whose count begins where that at this place does
abbrev pub messages_of : Plant → ℕ → ℕ → EventSource → Activator
messages_of p bus number source = Messages bus source (first_count p.plan.globals bus number)

located_by : (p : Plant) (bus number : ℕ) (source : EventSource) (act : activations.Activation)
    → source_at p bus number ≡ Some source
    → trigger_by p act ≡ Some (Trigger bus number) → activator_by p act ≡ Some (messages_of p bus number source)
located_by p bus number source (Cyclic interval) bound is = absurd (cc)
located_by p bus number source (OnEvent trigger) bound is =
    ap (option_and_then (messages_at p)) is ∙ ap (option_map (messages_of p bus number)) bound

planned_by : (p : Plant) (bus number : ℕ) (source : EventSource) (task : Option PlannedTask)
    → source_at p bus number ≡ Some source
    → option_and_then (λ (t : PlannedTask). trigger_by p t.activation) task ≡ Some (Trigger bus number)
    → option_and_then (λ (t : PlannedTask). activator_by p t.activation) task ≡ Some (messages_of p bus number source)
planned_by p bus number source None bound is = absurd (cc)
planned_by p bus number source (Some task) bound is = located_by p bus number source task.activation bound is

pub activated_by : (p : Plant) (t bus number : ℕ) (source : EventSource) → trigger_of p t ≡ Some (Trigger bus number)
    → source_at p bus number ≡ Some source → activator p t ≡ Some (messages_of p bus number source)
activated_by p t bus number source is bound = planned_by p bus number source (task_at p t) bound is

pub all_pending_events : (p : Plant) (t bus number : ℕ) (source : EventSource) (h : List Event) (a : PendingEvent)
    → trigger_of p t ≡ Some (Trigger bus number) → source_at p bus number ≡ Some source
    → Has (pending (activator p t) t h) a → IsPendingEvent p bus number source h a
all_pending_events p t bus number source h a is bound has =
    let first = first_count p.plan.globals bus number in
    let by = all_by bus first t source h a (subst (λ (x : Option Activator).
    Has (pending x t h) a) (activated_by p t bus number source is bound) has) in
    record {
      later = by.later;
      frame = by.frame;
      front = by.front;
      stands = by.stands;
      message = by.message;
      place = sym (ap (λ (x : PendingEvent). x.place) by.is);
      information = λ g there.
          information_after p g bus number by.frame source by.front there bound by.message
          ∙ ap (λ (x : PendingEvent). Some (whole x.information)) by.is;
      count = λ g there.
          count_after p g bus number by.frame source by.front there bound by.message
          ∙ ap (λ (x : PendingEvent). Some (whole x.count)) by.is;
    }
