-- Whose turn it is: an event comes at the place that has its turn, and a place that has nothing to do is passed.
use Rattle.std.proofs.Common.{◌≡◌, ◌≢◌, ◌⊎◌, inl, inr, ⊎_elim, ℕ, ◌+◌, ◌<◌, ◌≤◌, Bool, true, false, List, [], ◌∷◌, ◌++◌}
use Rattle.std.proofs.Common.{length, refl, sym, ap, ◌∙◌, subst, arith}
use Rattle.std.proofs.lemmas.Bool.{cases_lt}
use Rattle.std.proofs.lemmas.List.{append_assoc}
use Rattle.std.specs.Prelude.{OnOk, Result, Ok, Err}
use Rattle.std.specs.Result.{IsErrAnd}
use Rattle.buslink.specs.BusLog.{BusLog}
use Rattle.gearcmd.specs.FrameLists.{FrameList}
use Rattle.plantevents.specs.Snapshots.{ScanStart}
use Rattle.plantevents.specs.Scans.{Scan}
use Rattle.buslink.specs.Attempts.{ReportParts}
use Rattle.buslink.specs.declared.marks.Outcome.TheVariants as outcome
use Rattle.plantevents.specs.declared.event.Event.{Event}
use Rattle.plantevents.specs.declared.event.Event.TheVariants.{Heard, Take, Commit, Hand, Done, Down}
use Rattle.plantevents.specs.declared.event.Origin.{Origin}
use Rattle.plantevents.specs.declared.role.Role.TheVariants.{Bus}
use Rattle.plantevents.specs.Histories.{is_down}
use Rattle.plantevents.specs.Plants.{Plant}
use Rattle.plant.specs.Shown.{Shown, grown, reserving}
use Rattle.plantdriving.specs.declared.halt.Halt.{Halt}
use Rattle.plantdriving.specs.declared.halt.Halt.TheVariants.{Refused, Memory, Unwritten}
use Rattle.plantdriving.specs.Driven.{HasSent, IsDriven, IsHeard, IsHeardFirst, IsInOrder, SendsNext}
use Rattle.plantdriving.specs.Order.{CameInTurn, HaveNothing, IsInTurn, IsPassed, hears_at, next_place, place_after, scans_at, sends_at}
use Rattle.plantdriving.specs.Order.{with_events}
use Rattle.plantdriving.specs.Quiet.{HasNoHandout, HasNoScan}
use Rattle.plantdriving.specs.TurnSteps.{AreHeardInOrder, GoesOn, GoesTo, HaveHeard, IsHearing, IsTurnOf, Tells}
use Rattle.plantdriving.proofs.Handed.{has_failed}
use Rattle.plantdriving.proofs.Hearing.{up_to_next, wider}
use Rattle.plantdriving.proofs.Linked.{at_own}
use Rattle.plantdriving.proofs.Settled.{scan_moved}
use Rattle.plantdriving.proofs.Turned.{did_nothing, handout_moved}

-- ---- what is passed

not_passed : (at x : ℕ) → IsPassed at at x → ⊥
not_passed at x (inl here) = let low = here.0 in let high = here.1 in absurd (omega (arith, low, high))
not_passed at x (inr round) = let turned = round.0 in absurd (omega (arith, turned))

-- one place further, that place is passed too
passed_more : (from at next x : ℕ) → next ≡ at + 1 → IsPassed from next x → IsPassed from at x ⊎ (x ≡ at)
passed_more from at next x is (inl here) =
    let low = here.0 in let high = here.1 in
    ⊎_elim (λ (below : x < at). inl (inl (low, below))) (λ (above : at ≤ x). inr (omega (arith, is, high, above)))
    (cases_lt x at)
passed_more from at next x is (inr round) =
    let before = round.0 in let turned : at < from = omega (arith, is, before) in
    ⊎_elim (λ (late : from ≤ x). inl (inr (turned, inl late)))
    (λ (early : x < next).
    ⊎_elim (λ (below : x < at). inl (inr (turned, inr below))) (λ (above : at ≤ x). inr (omega (arith, is, early, above)))
    (cases_lt x at)) round.1

-- what is passed up to the scans of the next round is passed up to the end of this one
passed_around : (from end x : ℕ) → x < end → IsPassed from scans_at x → IsPassed from end x
passed_around from end x below (inl here) = let high = here.1 in absurd (omega (arith, high))
passed_around from end x below (inr round) =
    ⊎_elim (λ (late : from ≤ x).
    ⊎_elim (λ (over : end < from). inr (over, inl late)) (λ (within : from ≤ end). inl (late, below)) (cases_lt end from))
    (λ (early : x < scans_at). absurd (omega (arith, early))) round.1

scans_not_passed : (from : ℕ) → IsPassed from scans_at scans_at → ⊥
scans_not_passed from (inl here) = let high = here.1 in absurd (omega (arith, high))
scans_not_passed from (inr round) =
    let turned = round.0 in
    ⊎_elim (λ (late : from ≤ scans_at). absurd (omega (arith, turned, late)))
    (λ (early : scans_at < scans_at). absurd (omega (arith, early))) round.1

never_both : (b c : ℕ) → sends_at c ≡ hears_at b → ⊥
never_both b c same =
    ⊎_elim (λ (low : b < c). absurd (omega (arith, same, low))) (λ (high : c ≤ b). absurd (omega (arith, same, high)))
    (cases_lt b c)

-- ---- whoever has nothing to do is passed

have_none : (p : Shown) (at : ℕ) → HaveNothing p at at
have_none p at = record {
  scans = λ is. absurd (not_passed at scans_at is);
  buses = λ b known is. absurd (not_passed at (sends_at b) is);
}

past_scans : (p : Shown) (from : ℕ) → HaveNothing p from scans_at → HasNoScan p → HaveNothing p from (sends_at 0)
past_scans p from have none = record {
  scans = λ is. none;
  buses = λ b known is.
      ⊎_elim (λ (before : IsPassed from scans_at (sends_at b)). have.buses b known before)
      (λ (same : sends_at b ≡ scans_at). absurd (omega (arith, same)))
      (passed_more from scans_at (sends_at 0) (sends_at b) (omega arith) is);
}

past_sending : (p : Shown) (from b : ℕ) → HaveNothing p from (sends_at b) → HasNoHandout p b
    → HaveNothing p from (hears_at b)
past_sending p from b have none = record {
  scans = λ is.
      ⊎_elim (λ (before : IsPassed from (sends_at b) scans_at). have.scans before)
      (λ (same : scans_at ≡ sends_at b). absurd (omega (arith, same)))
      (passed_more from (sends_at b) (hears_at b) scans_at (omega arith) is);
  buses = λ c known is.
      ⊎_elim (λ (before : IsPassed from (sends_at b) (sends_at c)). have.buses c known before)
      (λ (same : sends_at c ≡ sends_at b).
      let own : b ≡ c = omega (arith, same) in subst (λ (n : ℕ). HasNoHandout p n) own none)
      (passed_more from (sends_at b) (hears_at b) (sends_at c) (omega arith) is);
}

past_hearing : (p : Shown) (from b : ℕ) → HaveNothing p from (hears_at b) → HaveNothing p from (sends_at (b + 1))
past_hearing p from b have = record {
  scans = λ is.
      ⊎_elim (λ (before : IsPassed from (hears_at b) scans_at). have.scans before)
      (λ (same : scans_at ≡ hears_at b). absurd (omega (arith, same)))
      (passed_more from (hears_at b) (sends_at (b + 1)) scans_at (omega arith) is);
  buses = λ c known is.
      ⊎_elim (λ (before : IsPassed from (hears_at b) (sends_at c)). have.buses c known before)
      (λ (same : sends_at c ≡ hears_at b). absurd (never_both b c same))
      (passed_more from (hears_at b) (sends_at (b + 1)) (sends_at c) (omega arith) is);
}

past_bus : (p : Shown) (from b : ℕ) → HaveNothing p from (sends_at b) → HasNoHandout p b
    → HaveNothing p from (sends_at (b + 1))
past_bus p from b have none = past_hearing p from b (past_sending p from b have none)

past_all : (p : Shown) (from n : ℕ) → n ≡ p.plant.plan.buses → HaveNothing p from (sends_at n)
    → HaveNothing p from scans_at
past_all p from n same have = record {
  scans = λ is. absurd (scans_not_passed from is);
  buses = λ b known is.
      let below : sends_at b < sends_at n = omega (arith, known, same) in
      have.buses b known (passed_around from (sends_at n) (sends_at b) below is);
}

-- the same of a plant with the same history
have_moved : (p q : Shown) (from to : ℕ) → q.history ≡ p.history → q.plant ≡ p.plant → HaveNothing q from to
    → HaveNothing p from to
have_moved p q from to history plant have = record {
  scans = λ is. scan_moved p q history plant (have.scans is);
  buses = λ b known is.
      handout_moved p q b history plant
      (have.buses b (subst (λ (m : Plant). b < m.plan.buses) (sym plant) known) is);
}

-- ---- whose turn it is

begun : (p : Shown) → IsTurnOf p p scans_at
begun p = record { events = []; history = refl; plant = refl; order = tt; passed = have_none p scans_at }

moved_on : (first p : Shown) (from to : ℕ) (turn : IsTurnOf first p from) → HaveNothing p (place_after turn.events) to
    → IsTurnOf first p to
moved_on first p from to turn have = record {
  events = turn.events;
  history = turn.history;
  plant = turn.plant;
  order = turn.order;
  passed = have;
}

in_turn : (first p : Shown) (at : ℕ) → IsTurnOf first p at → IsInTurn first p
in_turn first p at turn = record { events = turn.events; history = turn.history; order = turn.order }

pub stays : (p q : Shown) (at : ℕ) → q.history ≡ p.history → q.plant ≡ p.plant → GoesOn at at p q
stays p q at same plant = λ first turn. record {
  events = turn.events;
  history = same ∙ turn.history;
  plant = plant ∙ turn.plant;
  order = turn.order;
  passed = have_moved q p (place_after turn.events) at (sym same) (sym plant) turn.passed;
}

-- nothing at all changed
pub stays_same : (p q : Shown) (at : ℕ) → q ≡ p → GoesOn at at p q
stays_same p q at same = stays p q at (ap (λ (x : Shown). x.history) same) (ap (λ (x : Shown). x.plant) same)

pub on_and_on : (one two three : ℕ) (p q r : Shown) → GoesOn one two p q → GoesOn two three q r → GoesOn one three p r
on_and_on one two three p q r before then = λ first turn. then first (before first turn)

-- it stopped, at once or on the way
pub stops : (from to : ℕ) (p q : Shown) → GoesOn from to p q → (first : Shown) → IsTurnOf first p from
    → IsInTurn first q
stops from to p q goes = λ first turn. in_turn first q to (goes first turn)

pub stops_then : (from at : ℕ) (p q r : Shown) → GoesOn from at p q
    → ((first : Shown) → IsTurnOf first q at → IsInTurn first r) → (first : Shown) → IsTurnOf first p from
    → IsInTurn first r
stops_then from at p q r before stopped = λ first turn. stopped first (before first turn)

-- ---- events

had_nothing : (first p : Shown) (at : ℕ) (turn : IsTurnOf first p at)
    → HaveNothing (with_events first turn.events) (place_after turn.events) at
had_nothing first p at turn =
    have_moved (with_events first turn.events) p (place_after turn.events) at turn.history turn.plant turn.passed

came : (first p q : Shown) (at : ℕ) (e : Event) (turn : IsTurnOf first p at) → q ≡ grown p e
    → CameInTurn first (e ∷ turn.events) → IsTurnOf first q (next_place e)
came first p q at e turn is order = record {
  events = e ∷ turn.events;
  history = ap (λ (x : Shown). x.history) is ∙ ap (λ (h : List Event). e ∷ h) turn.history;
  plant = ap (λ (x : Shown). x.plant) is ∙ turn.plant;
  order = order;
  passed = have_none q (next_place e);
}

took : (w t : ℕ) (s : ScanStart) (p q : Shown) → q ≡ grown p (Take w t s) → GoesOn scans_at scans_at p q
took w t s p q is = λ first turn.
    came first p q scans_at (Take w t s) turn is (had_nothing first p scans_at turn, turn.order)

committed : (w n : ℕ) (result : Scan) (p q : Shown) → q ≡ grown p (Commit w n result) → GoesOn scans_at scans_at p q
committed w n result p q is = λ first turn.
    came first p q scans_at (Commit w n result) turn is (had_nothing first p scans_at turn, turn.order)

handed : (b : ℕ) (origin : Origin) (t : FrameList) (p q : Shown) → q ≡ grown p (Hand b origin t)
    → GoesOn (sends_at b) (sends_at b) p q
handed b origin t p q is = λ first turn.
    came first p q (sends_at b) (Hand b origin t) turn is (had_nothing first p (sends_at b) turn, turn.order)

reported : (b n : ℕ) (report : ReportParts) (p q : Shown) → q ≡ grown p (Done b n report)
    → GoesOn (sends_at b) (sends_at b) p q
reported b n report p q is = λ first turn.
    came first p q (sends_at b) (Done b n report) turn is (had_nothing first p (sends_at b) turn, turn.order)

went_down : (b : ℕ) (p q : Shown) → q ≡ grown p (Down b) → GoesOn (sends_at b) (sends_at b) p q
went_down b p q is = λ first turn.
    came first p q (sends_at b) (Down b) turn is (had_nothing first p (sends_at b) turn, turn.order)

-- ---- scans

pub scan_goes_on : (w t n : ℕ) (s : ScanStart) (result : Scan) (p r q : Shown) → r ≡ grown p (Take w t s)
    → q ≡ grown r (Commit w n result) → GoesOn scans_at scans_at p q
scan_goes_on w t n s result p r q taken done =
    on_and_on scans_at scans_at scans_at p r q (took w t s p r taken) (committed w n result r q done)

-- the last call found that no task is ready
pub no_scan_left : (p q : Shown) (did : Bool) → q.plant ≡ p.plant → Tells p q (HasNoScan p) (Ok did) → did ≡ false
    → HasNoScan q
no_scan_left p q did plant tells was =
    let nothing = did_nothing (HasNoScan p) p q did tells was in
    scan_moved q p (sym nothing.0) (sym plant) nothing.1

-- ---- what is sent

sent_goes_on : (b : ℕ) (p q : Shown) (log after : BusLog) → HasSent p b log q after
    → GoesOn (sends_at b) (sends_at b) p q
sent_goes_on b p q log after is =
    let at = sends_at b in
    let r = grown p (Hand b is.origin is.report.transaction) in
    let s = grown r (Done b (length p.history) is.report) in
    ⊎_elim (λ (failed : is.report.outcome ≡ outcome.Failed).
    on_and_on at at at p r q (handed b is.origin is.report.transaction p r refl)
    (on_and_on at at at r s q (reported b (length p.history) is.report r s refl) (went_down b s q (is.failed failed))))
    (λ (fine : is.report.outcome ≢ outcome.Failed).
    on_and_on at at at p r q (handed b is.origin is.report.transaction p r refl)
    (reported b (length p.history) is.report r q (is.fine fine))) (has_failed is.report.outcome)

pub sends_go_on : {A : Type 0} → (b : ℕ) (p q : Shown) (log after : BusLog) (result : Result A Halt)
    → SendsNext p b log q after result → GoesOn (sends_at b) (sends_at b) p q
sends_go_on b p q log after (Ok done) is = sent_goes_on b p q log after is
sends_go_on b p q log after (Err (Unwritten error)) is = sent_goes_on b p q log after is
sends_go_on b p q log after (Err Memory) is = stays_same p q (sends_at b) is.1.plant
sends_go_on b p q log after (Err (Refused refusal)) is = stays_same p q (sends_at b) is.1.plant

-- the last call found that nothing waits for the bus
pub none_left : (b : ℕ) (p q : Shown) (did : Bool) → q.plant ≡ p.plant → Tells p q (HasNoHandout p b) (Ok did)
    → did ≡ false → HasNoHandout q b
none_left b p q did plant tells was =
    let nothing = did_nothing (HasNoHandout p b) p q did tells was in
    handout_moved q p b (sym nothing.0) (sym plant) nothing.1

-- ---- what is heard

-- nothing was, where nothing was left to send
pub unheard : (b : ℕ) (p q : Shown) → q.history ≡ p.history → q.plant ≡ p.plant → HasNoHandout p b
    → GoesOn (sends_at b) (sends_at (b + 1)) p q
unheard b p q same plant none = λ first turn.
    let there = stays p q (sends_at b) same plant first turn in
    moved_on first q (sends_at b) (sends_at (b + 1)) there
    (past_bus q (place_after there.events) b there.passed (handout_moved q p b (sym same) (sym plant) none))

pub unheard_same : (b : ℕ) (p q : Shown) → q ≡ p → HasNoHandout p b → GoesOn (sends_at b) (sends_at (b + 1)) p q
unheard_same b p q same none =
    unheard b p q (ap (λ (x : Shown). x.history) same) (ap (λ (x : Shown). x.plant) same) none

-- a place was kept back
pub unheard_kept : (b : ℕ) (p r : Shown) → r ≡ reserving (Bus b) p → HasNoHandout p b
    → GoesOn (sends_at b) (sends_at (b + 1)) p r
unheard_kept b p r kept none =
    unheard b p r (ap (λ (x : Shown). x.history) kept) (ap (λ (x : Shown). x.plant) kept) none

pub frame_goes_on : (b frame : ℕ) (p r q : Shown) → r ≡ reserving (Bus b) p → q ≡ grown r (Heard b frame)
    → HasNoHandout p b → GoesOn (sends_at b) (sends_at (b + 1)) p q
frame_goes_on b frame p r q kept is none = λ first turn.
    let same : r.history ≡ p.history = ap (λ (x : Shown). x.history) kept in
    let plant : r.plant ≡ p.plant = ap (λ (x : Shown). x.plant) kept in
    let sending = stays p r (sends_at b) same plant first turn in
    let hearing = moved_on first r (sends_at b) (hears_at b) sending
    (past_sending r (place_after sending.events) b sending.passed (handout_moved r p b (sym same) (sym plant) none)) in
    let heard = came first r q (hears_at b) (Heard b frame) hearing is
    (had_nothing first r (hears_at b) hearing, hearing.order) in
    let next : hears_at b + 1 ≡ sends_at (b + 1) = omega arith in
    subst (λ (n : ℕ). IsTurnOf first q n) next heard

pub fault_goes_on : (b : ℕ) (p r q : Shown) → r ≡ reserving (Bus b) p → q ≡ grown r (Down b)
    → GoesOn (sends_at b) (sends_at (b + 1)) p q
fault_goes_on b p r q kept is =
    let same : r.history ≡ p.history = ap (λ (x : Shown). x.history) kept in
    let plant : r.plant ≡ p.plant = ap (λ (x : Shown). x.plant) kept in
    let at = sends_at b in
    let down : is_down b q.history ≡ true =
    ap (λ (x : Shown). is_down b x.history) is ∙ at_own b true (is_down b r.history) in
    on_and_on at at (sends_at (b + 1)) p q q
    (on_and_on at at at p r q (stays p r at same plant) (went_down b r q is))
    (unheard b q q refl refl (inl down))

-- ---- rounds

scans_go_on : (p q : Shown) → GoesOn scans_at scans_at p q → HasNoScan q → GoesOn scans_at (sends_at 0) p q
scans_go_on p q scans none = λ first turn.
    let scanned = scans first turn in
    moved_on first q scans_at (sends_at 0) scanned (past_scans q (place_after scanned.events) scanned.passed none)

pub round_stops : (p q r : Shown) → GoesOn scans_at scans_at p q → HasNoScan q
    → ((first : Shown) → IsTurnOf first q (sends_at 0) → IsInTurn first r) → (first : Shown)
    → IsTurnOf first p scans_at → IsInTurn first r
round_stops p q r scans none stopped = stops_then scans_at (sends_at 0) p q r (scans_go_on p q scans none) stopped

pub round_goes_on : (p q r : Shown) → r.plant ≡ q.plant → GoesOn scans_at scans_at p q → HasNoScan q
    → GoesOn (sends_at 0) (sends_at q.plant.plan.buses) q r → GoesOn scans_at scans_at p r
round_goes_on p q r plant scans none buses = λ first turn.
    let served = buses first (scans_go_on p q scans none first turn) in
    let n = q.plant.plan.buses in
    moved_on first r (sends_at n) scans_at served
    (past_all r (place_after served.events) n (ap (λ (m : Plant). m.plan.buses) (sym plant)) served.passed)

-- ---- first all was heard, and then there were rounds

pub heard_first : {A : Type 0} → (p q r : Shown) (before between after : List BusLog) (result : Result A Halt)
    → IsHeard p q before between → IsDriven q r between after → GoesTo scans_at scans_at q r result
    → OnOk result (IsHeardFirst p r before after)
heard_first p q r before between after (Ok done) heard rest goes =
    record {
      between = q;
      logs = between;
      heard = heard;
      rest = rest;
      turns = in_turn q r scans_at (goes q (begun q));
    }
heard_first p q r before between after (Err halt) heard rest goes = tt

-- ---- so far it came

-- one bus more was heard, or begun to be
pub heard_so_far : (p q r : Shown) (before after : List BusLog) (n : ℕ) → HaveHeard p q before after n
    → IsHearing n q r → n ≤ p.plant.plan.buses → AreHeardInOrder p r
heard_so_far p q r before after n have hearing within = record {
  events = hearing.events ++ have.events;
  history = hearing.history
      ∙ (ap (λ (h : List Event). hearing.events ++ h) have.history
      ∙ sym (append_assoc hearing.events have.events p.history));
  order = wider n p.plant.plan.buses (hearing.events ++ have.events) within
      (up_to_next n hearing.events have.events hearing.only have.order);
}

-- all were
pub all_in_order : (p q : Shown) (before after : List BusLog) → IsHeard p q before after → AreHeardInOrder p q
all_in_order p q before after heard = record {
  events = heard.events;
  history = heard.history;
  order = heard.order;
}

ordered : (p q r : Shown) → AreHeardInOrder p q → q.plant ≡ p.plant → IsInTurn q r → IsInOrder p r
ordered p q r heard plant turns = record {
  between = q;
  events = heard.events;
  history = heard.history;
  heard = heard.order;
  plant = plant;
  turns = turns;
}

pub none_came : (p q : Shown) → AreHeardInOrder p q → q.plant ≡ p.plant → IsInOrder p q
none_came p q heard plant = ordered p q q heard plant (in_turn q q scans_at (begun q))

pub came_in_order : {A : Type 0} → (p q r : Shown) (result : Result A Halt) → AreHeardInOrder p q → q.plant ≡ p.plant
    → GoesTo scans_at scans_at q r result → IsInOrder p r
came_in_order p q r (Ok done) heard plant goes = ordered p q r heard plant (in_turn q r scans_at (goes q (begun q)))
came_in_order p q r (Err halt) heard plant goes = ordered p q r heard plant (goes q (begun q))

-- what stops on the way, where it says so
pub stopped_at : {A : Type 0} (from to : ℕ) (p q : Shown) (r : Result A Halt) (Q : Halt → Type 0) → IsErrAnd r Q
    → ((first : Shown) → IsTurnOf first p from → IsInTurn first q) → GoesTo from to p q r
stopped_at from to p q (Ok done) Q is on_the_way = absurd is
stopped_at from to p q (Err halt) Q is on_the_way = on_the_way
