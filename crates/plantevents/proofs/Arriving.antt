-- What is pending is what arrived, without what was given up and what was taken.
use Rattle.std.proofs.Common.{◌≡◌, ℕ, ◌+◌, ◌-◌, ◌<◌, ◌≤◌, Bool, true, false, not, ◌&&◌, List, [], ◌∷◌, ◌++◌}
use Rattle.std.proofs.Common.{drop, length, Option, Some, refl, ap, ◌∙◌, subst, arith, length-append, length-drop}
use Rattle.std.proofs.Common.{⊎_elim, eqb, ◌≢◌}
use Rattle.std.proofs.lemmas.Bool.{ltb-true, ltb-false}
use Rattle.std.proofs.lemmas.Bool.Decides.{eqb_tells}
use Rattle.std.specs.Prelude.{if◌then◌else◌, nat_lt, ◌==◌}
use Rattle.circular_buffer.specs.Buffer.{keep_last}
use Rattle.dalievent.specs.declared.messages.EventSource.{EventSource}
use Rattle.plantevents.specs.declared.activator.PendingEvent.{PendingEvent}
use Rattle.plantevents.specs.declared.activator.Activator.{Activator}
use Rattle.plantevents.specs.declared.activator.Activator.TheVariants.{Messages}
use Rattle.plantevents.specs.declared.event.Event.{Event}
use Rattle.plantevents.specs.declared.event.Event.TheVariants.{Tick, Heard, Take, Commit, Hand, Done, Down, Up}
use Rattle.plantevents.specs.Plants.{Plant, activator}
use Rattle.plantevents.specs.Histories.{scans, is_scanned}
use Rattle.plantevents.specs.Readiness.{most_pending, activates, pending_event, pending, lost, ready}
use Rattle.plantevents.specs.Arrivals.{arrivals}
use Rattle.plantevents.specs.Legal.{AreLegal}
use Rattle.plantevents.proofs.Dropped.{drop_front, drop_one}

-- ---- no more than 32 are pending

few_kept : (q : List PendingEvent) → length (keep_last most_pending q) ≤ most_pending
few_kept q = let len = length-drop (length q - most_pending) q in omega arith

few_dropped : (q : List PendingEvent) → length q ≤ most_pending → length (drop 1 q) ≤ most_pending
few_dropped q le = let len = length-drop 1 q in omega arith

pub few_pending : (a : Option Activator) (t : ℕ) (h : List Event) → length (pending a t h) ≤ most_pending
few_pending a t [] = omega arith
few_pending a t (Tick m ∷ h) = few_pending a t h
few_pending a t (Heard b f ∷ h) =
    elim (activates a b f) as (λ (x : Bool).
    length (if x then keep_last most_pending (pending a t h ++ pending_event a b f h ∷ []) else pending a t h)
    ≤ most_pending) [
      | true ↦ few_kept (pending a t h ++ pending_event a b f h ∷ [])
      | false ↦ few_pending a t h
    ]
few_pending a t (Take w u s ∷ h) =
    elim (u == t) as (λ (x : Bool). length (if x then drop 1 (pending a t h) else pending a t h) ≤ most_pending) [
      | true ↦ few_dropped (pending a t h) (few_pending a t h)
      | false ↦ few_pending a t h
    ]
few_pending a t (Commit w n r ∷ h) = few_pending a t h
few_pending a t (Hand b s x ∷ h) = few_pending a t h
few_pending a t (Done b n r ∷ h) = few_pending a t h
few_pending a t (Down b ∷ h) = few_pending a t h
few_pending a t (Up b ∷ h) = few_pending a t h

-- ---- in order

-- so many of what arrived are gone, and the others are pending
pub record AreLeft (arrived left : List PendingEvent) (gone : ℕ) : Type 0 where
  pub within : gone ≤ length arrived
  pub are : left ≡ drop gone arrived

arrives : (arrived left : List PendingEvent) (gone : ℕ) (x : PendingEvent) → AreLeft arrived left gone
    → length left < most_pending → AreLeft (arrived ++ x ∷ []) (keep_last most_pending (left ++ x ∷ [])) gone
arrives arrived left gone x l few =
    let len = length-append left (x ∷ []) in
    let more = length-append arrived (x ∷ []) in
    let within = l.within in
    let none : length (left ++ x ∷ []) - most_pending ≡ 0 = omega arith in
    record {
      within = omega arith;
      are = ap (λ n. drop n (left ++ x ∷ [])) none
          ∙ (ap (λ q. q ++ x ∷ []) l.are ∙ drop_front gone arrived (x ∷ []) l.within);
    }

gives_up : (arrived left : List PendingEvent) (gone : ℕ) (x : PendingEvent) → AreLeft arrived left gone
    → length left ≡ most_pending → AreLeft (arrived ++ x ∷ []) (keep_last most_pending (left ++ x ∷ [])) (gone + 1)
gives_up arrived left gone x l full =
    let len = length-append left (x ∷ []) in
    let more = length-append arrived (x ∷ []) in
    let within = l.within in
    let one : length (left ++ x ∷ []) - most_pending ≡ 1 = omega arith in
    record {
      within = omega arith;
      are = ap (λ n. drop n (left ++ x ∷ [])) one
          ∙ (ap (λ q. drop 1 (q ++ x ∷ [])) l.are
          ∙ (ap (λ q. drop 1 q) (drop_front gone arrived (x ∷ []) l.within) ∙ drop_one gone (arrived ++ x ∷ [])));
    }

is_taken : (arrived left : List PendingEvent) (gone : ℕ) → AreLeft arrived left gone → 0 < length left
    → AreLeft arrived (drop 1 left) (gone + 1)
is_taken arrived left gone l some =
    let len = ap length l.are ∙ length-drop gone arrived in
    record { within = omega arith; are = ap (λ q. drop 1 q) l.are ∙ drop_one gone arrived }

same_gone : (arrived left : List PendingEvent) (n m : ℕ) → n ≡ m → AreLeft arrived left n → AreLeft arrived left m
same_gone arrived left n m e l = subst (λ k. AreLeft arrived left k) e l

abbrev pub LeftIn : Option Activator → ℕ → List Event → Type 0
LeftIn a t h = AreLeft (arrivals a h) (pending a t h) (lost a t h + scans t h)

heard_in : (a : Option Activator) (t b f : ℕ) (h : List Event) (x y : Bool)
    → nat_lt (length (pending a t h)) most_pending ≡ y
    → LeftIn a t h
    → AreLeft (if x then arrivals a h ++ pending_event a b f h ∷ [] else arrivals a h)
    (if x then keep_last most_pending (pending a t h ++ pending_event a b f h ∷ []) else pending a t h)
    ((if x && not y then lost a t h + 1 else lost a t h) + scans t h)
heard_in a t b f h false y is l = l
heard_in a t b f h true true is l =
    arrives (arrivals a h) (pending a t h) (lost a t h + scans t h) (pending_event a b f h) l
    (ltb-true (length (pending a t h)) most_pending is)
heard_in a t b f h true false is l =
    let least = ltb-false (length (pending a t h)) most_pending is in
    let most = few_pending a t h in
    same_gone (arrivals a h ++ pending_event a b f h ∷ []) _ (lost a t h + scans t h + 1) (lost a t h + 1 + scans t h)
    (omega arith)
    (gives_up (arrivals a h) (pending a t h) (lost a t h + scans t h) (pending_event a b f h) l (omega arith))

took_in : (a : Option Activator) (t : ℕ) (h : List Event) (x : Bool) → (x ≡ true → 0 < length (pending a t h))
    → LeftIn a t h
    → AreLeft (arrivals a h) (if x then drop 1 (pending a t h) else pending a t h)
    (lost a t h + (if x then scans t h + 1 else scans t h))
took_in a t h false some l = l
took_in a t h true some l =
    same_gone (arrivals a h) (drop 1 (pending a t h)) (lost a t h + scans t h + 1) (lost a t h + (scans t h + 1))
    (omega arith)
    (is_taken (arrivals a h) (pending a t h) (lost a t h + scans t h) l (some refl))

-- a task that is taken is ready: something is pending
first_of_both : (x y : Bool) → (x && y) ≡ true → x ≡ true
first_of_both true y e = refl
first_of_both false y e = absurd (cc)

some_pending : (bus first : ℕ) (source : EventSource) (t : ℕ) (h : List Event)
    → ready (Some (Messages bus source first)) t h ≡ true
    → 0 < length (pending (Some (Messages bus source first)) t h)
some_pending bus first source t h is = ltb-true 0 (length (pending (Some (Messages bus source first)) t h)) is

taken_some : (p : Plant) (bus first : ℕ) (source : EventSource) (u t : ℕ) (h : List Event)
    → activator p t ≡ Some (Messages bus source first)
    → (ready (activator p u) u h && not (is_scanned u h)) ≡ true → (u == t) ≡ true
    → 0 < length (pending (Some (Messages bus source first)) t h)
taken_some p bus first source u t h is free same =
    let task : u ≡ t =
    ⊎_elim (λ (k : (eqb u t ≡ true) × (u ≡ t)). k.1) (λ (k : (eqb u t ≡ false) × (u ≢ t)).
    absurd (cc)) (eqb_tells u t) in
    let now : ready (activator p t) t h ≡ true =
    subst (λ (v : ℕ). ready (activator p v) v h ≡ true) task
    (first_of_both (ready (activator p u) u h) (not (is_scanned u h)) free) in
    some_pending bus first source t h (subst (λ (a : Option Activator). ready a t h ≡ true) is now)

pub left_in : (p : Plant) (bus first : ℕ) (source : EventSource) (t : ℕ) (h : List Event)
    → activator p t ≡ Some (Messages bus source first)
    → AreLegal p h → LeftIn (Some (Messages bus source first)) t h
left_in p bus first source t [] is legal = record { within = omega arith; are = refl }
left_in p bus first source t (Tick m ∷ h) is legal = left_in p bus first source t h is legal.1
left_in p bus first source t (Heard b f ∷ h) is legal =
    heard_in (Some (Messages bus source first)) t b f h (activates (Some (Messages bus source first)) b f) _ refl
    (left_in p bus first source t h is legal.1)
left_in p bus first source t (Take w u s ∷ h) is legal =
    took_in (Some (Messages bus source first)) t h (u == t) (taken_some p bus first source u t h is legal.0.next.free)
    (left_in p bus first source t h is legal.1)
left_in p bus first source t (Commit w n r ∷ h) is legal = left_in p bus first source t h is legal.1
left_in p bus first source t (Hand b s x ∷ h) is legal = left_in p bus first source t h is legal.1
left_in p bus first source t (Done b n r ∷ h) is legal = left_in p bus first source t h is legal.1
left_in p bus first source t (Down b ∷ h) is legal = left_in p bus first source t h is legal.1
left_in p bus first source t (Up b ∷ h) is legal = left_in p bus first source t h is legal.1

pub pending_in_order : (p : Plant) (bus first : ℕ) (source : EventSource) (t : ℕ) (h : List Event)
    → activator p t ≡ Some (Messages bus source first) → AreLegal p h
    → pending (Some (Messages bus source first)) t h
    ≡ drop (lost (Some (Messages bus source first)) t h + scans t h) (arrivals (Some (Messages bus source first)) h)
pending_in_order p bus first source t h is legal = (left_in p bus first source t h is legal).are
