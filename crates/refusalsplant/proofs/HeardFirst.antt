-- Which bus is heard first.
use Rattle.std.proofs.Common.{◌≡◌, ◌⊎◌, ⊎_elim, inl, inr, ◌∙◌, ℕ, zero, suc, ◌+◌, ◌<◌, ◌≤◌, Bool, true, false, List, [], ◌∷◌, ◌++◌}
use lib.Dec.{eqb-suc-zero}
use Rattle.std.specs.Prelude.{if◌then◌else◌}
use Rattle.std.proofs.Common.{length, Option, Some, None, IfSome, refl, ap, sym, subst, arith, append_assoc, length-append}
use Rattle.buslink.specs.BusLog.{Arrivals, BusLog, HasHeardAll, frames_in}
use Rattle.plantevents.specs.declared.event.Event.{Event}
use Rattle.plantevents.specs.declared.event.Event.TheVariants.{Tick, Heard, Take, Commit, Hand, Done, Down, Up}
use Rattle.plantevents.specs.Histories.{heard_in, is_down}
use Rattle.plant.specs.Shown.{Shown}
use Rattle.plantdriving.specs.Driven.{AreHeardUpTo, IsHeard, IsHeardFirst}
use Rattle.plantdriving.specs.Links.{AreLinked, log_of}
use Rattle.plantdriving.specs.Quiet.{HasNoFrame}
use Rattle.refusalsplant.specs.Hearings.{IsOfHearing}
use Rattle.refusalsplant.proofs.Driven.{first_there}

-- the oldest of these is one of hearing on bus 0
abbrev OldestHears : List Event → Type 0
OldestHears [] = ⊥
OldestHears (e ∷ []) = IsOfHearing 0 e
OldestHears (e ∷ f ∷ more) = OldestHears (f ∷ more)

-- these say nothing of bus 0
record SayNothing (events h : List Event) : Type 0 where
  heard : heard_in 0 (events ++ h) ≡ heard_in 0 h
  down : is_down 0 (events ++ h) ≡ is_down 0 h

-- a bus above 0 has a number of 1 or more, and what is heard there says nothing of bus 0
more_heard : (c frame : ℕ) (events h : List Event) → 1 ≤ c → SayNothing events h → SayNothing (Heard c frame ∷ events) h
more_heard zero frame events h high none = absurd (omega (arith, high))
more_heard (suc c) frame events h high none =
    let apart : heard_in 0 ((Heard (suc c) frame ∷ events) ++ h) ≡ heard_in 0 (events ++ h) =
    ap (λ (t : Bool). if t then heard_in 0 (events ++ h) ++ frame ∷ [] else heard_in 0 (events ++ h)) (eqb-suc-zero c) in
    record { heard = apart ∙ none.heard; down = none.down }

more_down : (c : ℕ) (events h : List Event) → 1 ≤ c → SayNothing events h → SayNothing (Down c ∷ events) h
more_down zero events h high none = absurd (omega (arith, high))
more_down (suc c) events h high none =
    let apart : is_down 0 ((Down (suc c) ∷ events) ++ h) ≡ is_down 0 (events ++ h) =
    ap (λ (t : Bool). if t then true else is_down 0 (events ++ h)) (eqb-suc-zero c) in
    record { heard = none.heard; down = apart ∙ none.down }

none_yet : (h : List Event) → SayNothing [] h
none_yet h = record { heard = refl; down = refl }

-- of events of hearing in the order of the buses the oldest is one of bus 0, or none is
of_first : (b : ℕ) (e : Event) (events h : List Event) → AreHeardUpTo b (e ∷ events)
    → ((1 ≤ b) × SayNothing (e ∷ events) h) ⊎ OldestHears (e ∷ events)
of_first b (Heard zero frame) [] h order = inr refl
of_first b (Heard (suc c) frame) [] h order =
    let low = order.0 in inl (omega (arith, low), more_heard (suc c) frame [] h (omega arith) (none_yet h))
of_first b (Heard c frame) (f ∷ events) h order =
    ⊎_elim (λ above.
    let low = order.0 in
    let high = above.0 in
    inl (omega (arith, low, high), more_heard c frame (f ∷ events) h high above.1)) inr (of_first c f events h order.1)
of_first b (Down zero) [] h order = inr refl
of_first b (Down (suc c)) [] h order =
    let low = order.0 in inl (omega (arith, low), more_down (suc c) [] h (omega arith) (none_yet h))
of_first b (Down c) (f ∷ events) h order =
    ⊎_elim (λ above.
    let low = order.0 in
    let high = above.0 in
    inl (omega (arith, low, high), more_down c (f ∷ events) h high above.1)) inr (of_first c f events h order.1)
of_first b (Tick m) events h order = absurd order
of_first b (Take w t s) events h order = absurd order
of_first b (Commit w n r) events h order = absurd order
of_first b (Hand d s t) events h order = absurd order
of_first b (Done d n r) events h order = absurd order
of_first b (Up d) events h order = absurd order

nothing_or_first : (b : ℕ) (events h : List Event) → AreHeardUpTo b events → SayNothing events h ⊎ OldestHears events
nothing_or_first b [] h order = inl (record { heard = refl; down = refl })
nothing_or_first b (e ∷ events) h order = ⊎_elim (λ above. inl above.1) inr (of_first b e events h order)

-- ---- the event that came first

record Oldest (events h : List Event) : Type 0 where
  later : List Event
  event : Event
  hears : IsOfHearing 0 event
  is : events ++ h ≡ later ++ event ∷ h

oldest : (events h : List Event) → OldestHears events → Oldest events h
oldest [] h hears = absurd hears
oldest (e ∷ []) h hears = record { later = []; event = e; hears = hears; is = refl }
oldest (e ∷ f ∷ events) h hears =
    let o = oldest (f ∷ events) h hears in
    record { later = e ∷ o.later; event = o.event; hears = o.hears; is = ap (λ (l : List Event). e ∷ l) o.is }

-- after the same history one event came first
one_first : (xs ys : List Event) (x y : Event) (h : List Event) → xs ++ x ∷ h ≡ ys ++ y ∷ h → x ≡ y
one_first [] [] x y h is = cc
one_first [] (b ∷ ys) x y h is = absurd (let long = ap length is in omega (arith, long, length-append ys (y ∷ h)))
one_first (a ∷ xs) [] x y h is = absurd (let long = ap length is in omega (arith, long, length-append xs (x ∷ h)))
one_first (a ∷ xs) (b ∷ ys) x y h is = one_first xs ys x y h cc

-- ---- bus 0 has something to hear

still_heard : (log after : BusLog) → after.arrivals ≡ log.arrivals → after.heard ≡ log.heard → HasHeardAll after
    → HasHeardAll log
still_heard log after arrivals heard all =
    subst (λ (known : Option Arrivals). IfSome known (λ a. log.heard ≡ frames_in a.come)) arrivals
    (subst (λ (list : List ℕ). IfSome after.arrivals (λ a. list ≡ frames_in a.come)) heard all)

heard_nothing : (p q : Shown) (before after firsts : List BusLog) (heard : IsHeard p q before after)
    → AreLinked firsts p.history before → 0 < length before → 0 < p.plant.plan.buses → is_down 0 p.history ≡ false
    → ¬ HasHeardAll (log_of before 0) → ¬ SayNothing heard.events p.history
heard_nothing p q before after firsts heard linked there known up comes none =
    let count = heard.driven.count in
    let was = (linked 0 (log_of before 0) (first_there before there)).heard in
    let is = (heard.driven.linked firsts linked 0 (log_of after 0) (first_there after (omega (arith, count, there)))).heard in
    let same : heard_in 0 q.history ≡ heard_in 0 p.history = ap (heard_in 0) heard.history ∙ none.heard in
    let list = is ∙ (ap (λ (l : List ℕ). (log_of firsts 0).heard ++ l) same ∙ sym was) in
    let down = ap (is_down 0) heard.history ∙ (none.down ∙ up) in
    ⊎_elim (λ (went : is_down 0 q.history ≡ true). absurd cc)
    (λ silent. comes (still_heard (log_of before 0) (log_of after 0) (heard.driven.same 0).arrivals list silent.all))
    (heard.silent 0 known)

-- Where bus 0 has something to hear, what is done first is that it is heard.
pub heard_first : (p r : Shown) (before ends firsts : List BusLog) → IsHeardFirst p r before ends
    → AreLinked firsts p.history before → 0 < length before → 0 < p.plant.plan.buses → is_down 0 p.history ≡ false
    → ¬ HasHeardAll (log_of before 0) → (e : Event) (later : List Event) → r.history ≡ later ++ e ∷ p.history
    → IsOfHearing 0 e
heard_first p r before ends firsts first linked there known up comes e later is =
    let heard = first.heard in
    let none = heard_nothing p first.between before first.logs firsts heard linked there known up comes in
    let o = oldest heard.events p.history
    (⊎_elim (λ nothing. absurd (none nothing)) (λ hears. hears)
    (nothing_or_first p.plant.plan.buses heard.events p.history heard.order)) in
    let whole : (first.rest.later ++ o.later) ++ o.event ∷ p.history ≡ later ++ e ∷ p.history =
    append_assoc first.rest.later o.later (o.event ∷ p.history)
    ∙ (ap (λ (l : List Event). first.rest.later ++ l) (sym (heard.history ∙ o.is))
    ∙ (sym first.rest.history ∙ is)) in
    subst (λ (x : Event). IsOfHearing 0 x) (one_first (first.rest.later ++ o.later) later o.event e p.history whole) o.hears
