-- What is heard on each bus, one after another.
use Rattle.std.proofs.Common.{◌≡◌, ◌≢◌, inl, inr, ℕ, ◌+◌, ◌≤◌, ◌==◌, Bool, true, false, List, [], ◌∷◌, ◌++◌}
use Rattle.std.proofs.Common.{refl, sym, ap, ◌∙◌, subst, arith, below_more}
use Rattle.std.proofs.lemmas.List.{append_assoc}
use Rattle.std.specs.Prelude.{if◌then◌else◌}
use Rattle.buslink.specs.BusLog.{BusLog}
use Rattle.plantevents.specs.declared.event.Event.{Event}
use Rattle.plantevents.specs.declared.event.Event.TheVariants.{Tick, Heard, Take, Commit, Hand, Done, Down, Up}
use Rattle.plantevents.specs.Histories.{is_down}
use Rattle.plant.specs.Shown.{Shown, grown, reserving}
use Rattle.plantevents.specs.declared.role.Role.TheVariants.{Bus}
use Rattle.plantdriving.specs.Driven.{AreHeardUpTo, IsDriven, IsHeard}
use Rattle.plantdriving.specs.Links.{log_of}
use Rattle.plantdriving.specs.Quiet.{HasNoFrame}
use Rattle.plantdriving.specs.TurnSteps.{AreHeardOn, HaveHeard, IsHearing}
use Rattle.plantdriving.proofs.Turned.{finish_then, frame_since}

-- ---- a bus that is down stays so while frames are heard

down_later : (b n : ℕ) (events h : List Event) → AreHeardOn n events → is_down b h ≡ true
    → is_down b (events ++ h) ≡ true
down_later b n [] h are is = is
down_later b n (Heard c f ∷ events) h are is = down_later b n events h are.1 is
down_later b n (Down c ∷ events) h are is =
    elim (c == b) as (λ (k : Bool). (if k then true else is_down b (events ++ h)) ≡ true) [
      | true ↦ refl
      | false ↦ down_later b n events h are.1 is
    ]
down_later b n (Tick m ∷ events) h are is = absurd are
down_later b n (Take w t s ∷ events) h are is = absurd are
down_later b n (Commit w k r ∷ events) h are is = absurd are
down_later b n (Hand c s t ∷ events) h are is = absurd are
down_later b n (Done c k r ∷ events) h are is = absurd are
down_later b n (Up c ∷ events) h are is = absurd are

pub frame_later : (p q : Shown) (b n : ℕ) (first log : BusLog) (events : List Event)
    → q.history ≡ events ++ p.history → AreHeardOn n events → HasNoFrame p b first log → HasNoFrame q b first log
frame_later p q b n first log events more are (inl down) =
    inl (ap (is_down b) more ∙ down_later b n events p.history are down)
frame_later p q b n first log events more are (inr silent) = inr silent

-- ---- the events of one bus

pub heard_nothing : (b : ℕ) (p q : Shown) → q.history ≡ p.history → IsHearing b p q
heard_nothing b p q same = record { events = []; history = same; only = tt }

pub heard_frame : (b frame : ℕ) (p r q : Shown) → r ≡ reserving (Bus b) p → q ≡ grown r (Heard b frame)
    → IsHearing b p q
heard_frame b frame p r q kept now = record {
  events = Heard b frame ∷ [];
  history = ap (λ (x : Shown). x.history) now ∙ ap (λ (x : Shown). Heard b frame ∷ x.history) kept;
  only = (refl, tt);
}

pub heard_fault : (b : ℕ) (p r q : Shown) → r ≡ reserving (Bus b) p → q ≡ grown r (Down b) → IsHearing b p q
heard_fault b p r q kept now = record {
  events = Down b ∷ [];
  history = ap (λ (x : Shown). x.history) now ∙ ap (λ (x : Shown). Down b ∷ x.history) kept;
  only = (refl, tt);
}

on_both : (b : ℕ) (newer older : List Event) → AreHeardOn b newer → AreHeardOn b older
    → AreHeardOn b (newer ++ older)
on_both b [] older one two = two
on_both b (Heard c f ∷ newer) older one two = (one.0, on_both b newer older one.1 two)
on_both b (Down c ∷ newer) older one two = (one.0, on_both b newer older one.1 two)
on_both b (Tick m ∷ newer) older one two = absurd one
on_both b (Take w t s ∷ newer) older one two = absurd one
on_both b (Commit w n r ∷ newer) older one two = absurd one
on_both b (Hand c s t ∷ newer) older one two = absurd one
on_both b (Done c n r ∷ newer) older one two = absurd one
on_both b (Up c ∷ newer) older one two = absurd one

pub hearing_then : (b : ℕ) (p q r : Shown) → IsHearing b p q → IsHearing b q r → IsHearing b p r
hearing_then b p q r one two = record {
  events = two.events ++ one.events;
  history = two.history
      ∙ (ap (λ (h : List Event). two.events ++ h) one.history ∙ sym (append_assoc two.events one.events p.history));
  only = on_both b two.events one.events two.only one.only;
}

-- ---- the events of all buses

pub wider : (b c : ℕ) (events : List Event) → b ≤ c → AreHeardUpTo b events → AreHeardUpTo c events
wider b c [] few are = tt
wider b c (Heard d f ∷ events) few are = let le = are.0 in (omega (arith, le, few), are.1)
wider b c (Down d ∷ events) few are = let le = are.0 in (omega (arith, le, few), are.1)
wider b c (Tick m ∷ events) few are = absurd are
wider b c (Take w t s ∷ events) few are = absurd are
wider b c (Commit w n r ∷ events) few are = absurd are
wider b c (Hand d s t ∷ events) few are = absurd are
wider b c (Done d n r ∷ events) few are = absurd are
wider b c (Up d ∷ events) few are = absurd are

-- those of a bus come after those of the buses before it
pub up_to_next : (b : ℕ) (newer older : List Event) → AreHeardOn b newer → AreHeardUpTo b older
    → AreHeardUpTo b (newer ++ older)
up_to_next b [] older one two = two
up_to_next b (Heard c f ∷ newer) older one two =
    let same = one.0 in
    (omega (arith, same), subst (λ (n : ℕ). AreHeardUpTo n (newer ++ older)) (sym same) (up_to_next b newer older one.1 two))
up_to_next b (Down c ∷ newer) older one two =
    let same = one.0 in
    (omega (arith, same), subst (λ (n : ℕ). AreHeardUpTo n (newer ++ older)) (sym same) (up_to_next b newer older one.1 two))
up_to_next b (Tick m ∷ newer) older one two = absurd one
up_to_next b (Take w t s ∷ newer) older one two = absurd one
up_to_next b (Commit w n r ∷ newer) older one two = absurd one
up_to_next b (Hand c s t ∷ newer) older one two = absurd one
up_to_next b (Done c n r ∷ newer) older one two = absurd one
up_to_next b (Up c ∷ newer) older one two = absurd one

-- no bus was asked yet
pub none_heard : (p : Shown) (logs : List BusLog) → IsDriven p p logs logs → HaveHeard p p logs logs 0
none_heard p logs driven = record {
  driven = driven;
  events = [];
  history = refl;
  order = tt;
  silent = λ b below. absurd (omega (arith, below));
}

-- one bus more heard all that had come
pub one_more_heard : (p q r : Shown) (before between after : List BusLog) (n : ℕ) → HaveHeard p q before between n
    → IsDriven q r between after → IsHearing n q r
    → ((b : ℕ) → b ≢ n → log_of after b ≡ log_of between b)
    → HasNoFrame r n (log_of between n) (log_of after n) → HaveHeard p r before after (n + 1)
one_more_heard p q r before between after n have driven hearing others none = record {
  driven = finish_then p q r before between after have.driven driven;
  events = hearing.events ++ have.events;
  history = hearing.history
      ∙ (ap (λ (h : List Event). hearing.events ++ h) have.history
      ∙ sym (append_assoc hearing.events have.events p.history));
  order = wider n (n + 1) (hearing.events ++ have.events) (omega arith)
      (up_to_next n hearing.events have.events hearing.only have.order);
  silent = λ b below.
      below_more (λ c. HasNoFrame r c (log_of before c) (log_of after c)) n
      (λ c lt.
      let other : c ≢ n = λ e. absurd (omega (arith, lt, e)) in
      subst (λ (l : BusLog). HasNoFrame r c (log_of before c) l) (sym (others c other))
      (frame_later q r c n (log_of before c) (log_of between c) hearing.events hearing.history hearing.only
      (have.silent c lt)))
      (frame_since r n (log_of before n) (log_of between n) (log_of after n) (have.driven.hears n) none) b below;
}

-- all buses did
pub all_heard : (p q : Shown) (before after : List BusLog) (n : ℕ) → HaveHeard p q before after n
    → n ≡ p.plant.plan.buses → IsHeard p q before after
all_heard p q before after n have same = record {
  driven = have.driven;
  events = have.events;
  history = have.history;
  order = subst (λ (k : ℕ). AreHeardUpTo k have.events) same have.order;
  silent = λ b below. have.silent b (omega (arith, below, same));
}
