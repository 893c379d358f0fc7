-- A run goes on: what it begins with, and what it leaves.
use Rattle.std.proofs.Common.{◌≡◌, ℕ, zero, suc, ◌+◌, ◌≤◌, List, [], ◌∷◌, ◌++◌, map, length, refl, sym, ap, ◌∙◌}
use Rattle.std.proofs.Common.{subst, arith, inl, inr}
use Rattle.std.proofs.lemmas.List.{append_assoc}
use Rattle.std.proofs.lemmas.Option.{slice_get_within}
use Rattle.std.specs.Prelude.{slice_get, Some}
use Rattle.buslink.specs.BusLog.{BusLog}
use Rattle.buslink.specs.ClockLog.{ClockLog}
use Rattle.plantevents.specs.declared.event.Event.{Event}
use Rattle.plantevents.specs.Histories.{given_in}
use Rattle.plantevents.specs.Legal.{AreLegal}
use Rattle.plantevents.specs.Plants.{Plant}
use Rattle.plant.specs.Shown.{Shown, kept}
use Rattle.plantturns.specs.Tied.{IsFront}
use Rattle.plantturns.specs.Links.{HasGrown, IsNoLess, log_of}
use Rattle.plantturns.specs.Logs.{HasEnded}
use Rattle.plantturns.specs.Links.{IsLinked}
use Rattle.plantturns.specs.Quiet.{HasNoFrame, IsQuiet}
use Rattle.plantturns.specs.Open.{HasNothingOpen}
use Rattle.plantturns.proofs.Turned.{log_stands}
use Rattle.workers.specs.Beginnings.{IsInStep}
use Rattle.workers.specs.Closings.{IsClosed}
use Rattle.workers.specs.Runs.{HasEndedQuietly}
use Rattle.workers.specs.declared.closed.ClosedParts.{ClosedParts}
use Rattle.workers.proofs.Earlier.{before_at, bus_before, buses_before, clock_before, given_before, linked_before}
use Rattle.workers.proofs.Following.{given_on, linked_on, linked_since}
use Rattle.workers.proofs.Left.{made}
use Rattle.workers.proofs.Told.{there}

pub front_of_front : {h i j : List Event} → IsFront h i → IsFront i j → IsFront h j
front_of_front {h} {i} {j} first second = record {
  later = second.later ++ first.later;
  is = second.is ∙ (ap (λ (x : List Event). second.later ++ x) first.is ∙ sym (append_assoc second.later first.later h));
}

-- another limit opens nothing
pub still_open_none : (p q : Shown) (limit : ℕ) → q ≡ record p { limit = limit } → HasNothingOpen p → HasNothingOpen q
still_open_none p q limit is none =
    subst HasNothingOpen (sym is) (record { no_scan = none.no_scan; no_hand = none.no_hand })

-- nor does it take more room
pub room_before : (p q : Shown) (limit : ℕ) → q ≡ record p { limit = limit } → length p.history + kept p ≤ p.limit
    → length q.history + kept q ≤ p.limit
room_before p q limit is within = subst (λ (x : Shown). length x.history + kept x ≤ p.limit) (sym is) within

-- with its own limit again it is as it was
pub limit_back : (p q r : Shown) (limit before : ℕ) → q ≡ record p { limit = limit } → before ≡ p.limit
    → r ≡ record q { limit = before } → r ≡ p
limit_back p q r limit before is same back =
    back
    ∙ (ap (λ (x : Shown). record x { limit = before }) is ∙ ap (λ n. record p { limit = n }) same)

-- ---- the logs with which it begins

-- how often a bus was asked to hear is as it is now
hears_before : (n : ℕ) (h : List Event) (logs : List BusLog) (b : ℕ)
    → (log_of (buses_before n h logs) b).hears ≡ (log_of logs b).hears
hears_before n h [] b = refl
hears_before n h (log ∷ logs) zero = refl
hears_before n h (log ∷ logs) (suc b) = hears_before (n + 1) h logs b

frame_since : (p : Shown) (h : List Event) (logs after : List BusLog) (b : ℕ)
    → HasNoFrame p b (log_of (buses_before 0 h logs) b) (log_of after b)
    → HasNoFrame p b (log_of logs b) (log_of after b)
frame_since p h logs after b (inl down) = inl down
frame_since p h logs after b (inr silent) =
    inr (record {
      none = silent.none;
      asked = subst (λ n. HasGrown n (log_of after b).hears) (hears_before 0 h logs b) silent.asked;
      all = silent.all;
    })

-- what is quiet since then is quiet since the logs of now
quiet_since : (p : Shown) (h : List Event) (logs after : List BusLog) → IsQuiet p (buses_before 0 h logs) after
    → IsQuiet p logs after
quiet_since p h logs after quiet = record {
  scanned = quiet.scanned;
  sent = quiet.sent;
  heard = λ b known. frame_since p h logs after b (quiet.heard b known);
}

ended_since : (h : List Event) (first log : ClockLog) → HasEnded (clock_before h first) log → HasEnded first log
ended_since h first log is = record { grown = is.grown; none = is.none; all = is.all }

pub quietly_since : {B C : Type 0} (h : List Event) (logs : List BusLog) (first : ClockLog) (bus_log : B → BusLog)
    (clock_log : C → ClockLog) (left : ClosedParts B C)
    → HasEndedQuietly (buses_before 0 h logs) (clock_before h first) bus_log clock_log left
    → HasEndedQuietly logs first bus_log clock_log left
quietly_since h logs first bus_log clock_log left is = record {
  clock = ended_since h first (clock_log left.clock) is.clock;
  quiet = quiet_since left.plant h logs (map bus_log left.buses.items) is.quiet;
}

no_less_twice : (first second now : ℕ) → IsNoLess first second → IsNoLess second now → IsNoLess first now
no_less_twice first second now was is = omega (arith, was, is)

module _ {B C : Type 0} (bus_log : B → BusLog) (clock_log : C → ClockLog) (old : ClosedParts B C) (p : Plant)
    (logs : List BusLog) (first : ClockLog) (closed : IsClosed p logs first bus_log clock_log old) where
  abbrev pub begun : List BusLog
  begun = buses_before 0 old.plant.history (map bus_log old.buses.items)

  abbrev pub begun_clock : ClockLog
  begun_clock = clock_before old.plant.history (clock_log old.clock)

  -- the log of one bus
  begun_at : (k : ℕ) (line : B) → slice_get old.buses.items k ≡ Some line
      → log_of begun k ≡ bus_before (0 + k) old.plant.history (bus_log line)
  begun_at k line at = before_at 0 old.plant.history (map bus_log old.buses.items) k (bus_log line)
      (made bus_log old.buses.items k line at)

  linked_begun : (k : ℕ) (line : B) → slice_get old.buses.items k ≡ Some line
      → IsLinked (log_of begun (0 + k)) (0 + k) old.plant.history (bus_log line)
  linked_begun k line at =
      let same : 0 + k ≡ k = omega arith in
      subst (λ (l : BusLog). IsLinked l (0 + k) old.plant.history (bus_log line))
      (sym (ap (log_of begun) same ∙ begun_at k line at))
      (linked_before (log_of logs (0 + k)) (bus_log line) (0 + k) old.plant.history (closed.buses k line at))

  in_step_again : (start : Shown) → start.history ≡ old.plant.history
      → IsInStep start begun begun_clock bus_log clock_log old.buses.items old.clock
  in_step_again start same = record {
    buses = λ k line at.
        subst (λ (h : List Event). IsLinked (log_of begun (0 + k)) (0 + k) h (bus_log line)) (sym same)
        (linked_begun k line at);
    hears = λ k line at.
        let number : 0 + k ≡ k = omega arith in
        subst (λ (l : BusLog). IsNoLess l.hears (bus_log line).hears)
        (sym (ap (log_of begun) number ∙ begun_at k line at)) (omega arith);
    given =
        given_before first (clock_log old.clock) old.plant.history closed.clock
        ∙ ap (λ (h : List Event). begun_clock.given ++ given_in h) (sym same);
    moments = refl;
    asks = omega arith;
  }

  -- the same by the history at its start
  pub in_step_from : (start : Shown) → start.history ≡ old.plant.history
      → IsInStep start (buses_before 0 start.history (map bus_log old.buses.items))
      (clock_before start.history (clock_log old.clock)) bus_log clock_log old.buses.items old.clock
  in_step_from start same =
      subst (λ (h : List Event). IsInStep start (buses_before 0 h (map bus_log old.buses.items))
      (clock_before h (clock_log old.clock)) bus_log clock_log old.buses.items old.clock) (sym same)
      (in_step_again start same)

  -- ---- what it leaves

  module _ (start : Shown) (new : ClosedParts B C) (same : start.history ≡ old.plant.history)
      (run : IsClosed start.plant (buses_before 0 start.history (map bus_log old.buses.items))
      (clock_before start.history (clock_log old.clock)) bus_log clock_log new)
      (front : IsFront start.history new.plant.history) (count : length new.buses.items ≡ length old.buses.items) where
    goes : IsClosed start.plant begun begun_clock bus_log clock_log new
    goes =
        subst (λ (h : List Event). IsClosed start.plant (buses_before 0 h (map bus_log old.buses.items))
        (clock_before h (clock_log old.clock)) bus_log clock_log new) same run

    pub grew : new.plant.history ≡ front.later ++ old.plant.history
    grew = front.is ∙ ap (λ (h : List Event). front.later ++ h) same

    pub linked_now : (k : ℕ) (line : B) → slice_get new.buses.items k ≡ Some line
        → IsLinked (log_of (map bus_log old.buses.items) (0 + k)) (0 + k) front.later (bus_log line)
    linked_now k line at =
        let far = slice_get_within new.buses.items k line at in
        let was = there old.buses.items k (omega (arith, far, count)) in
        let number : 0 + k ≡ k = omega arith in
        let whole : IsLinked (log_of begun (0 + k)) (0 + k) (front.later ++ old.plant.history) (bus_log line) =
        subst (λ (h : List Event). IsLinked (log_of begun (0 + k)) (0 + k) h (bus_log line)) grew (goes.buses k line at) in
        subst (λ (l : BusLog). IsLinked l (0 + k) front.later (bus_log line))
        (sym (ap (log_of (map bus_log old.buses.items)) number ∙ log_stands bus_log old.buses.items k was.x was.is))
        (linked_since (log_of begun (0 + k)) (bus_log was.x) (bus_log line) (0 + k) front.later old.plant.history
        (linked_begun k was.x was.is) whole)

    pub given_now : (clock_log new.clock).given ≡ (clock_log old.clock).given ++ given_in front.later
    given_now =
        goes.clock
        ∙ (ap (λ (h : List Event). begun_clock.given ++ given_in h) grew
        ∙ (ap (λ (given : List ℕ). begun_clock.given ++ given) (given_on front.later old.plant.history)
        ∙ (sym (append_assoc begun_clock.given (given_in old.plant.history) (given_in front.later))
        ∙ ap (λ (given : List ℕ). given ++ given_in front.later)
        (sym (given_before first (clock_log old.clock) old.plant.history closed.clock)))))

    pub moments_now : (clock_log new.clock).moments ≡ (clock_log old.clock).moments
    moments_now = goes.moments

    no_less_now : (k : ℕ) (line : B) → slice_get new.buses.items k ≡ Some line
        → IsNoLess (log_of logs (0 + k)).hears (bus_log line).hears
    no_less_now k line at =
        let far = slice_get_within new.buses.items k line at in
        let was = there old.buses.items k (omega (arith, far, count)) in
        let number : 0 + k ≡ k = omega arith in
        let then = closed.hears k was.x was.is in
        let now =
        subst (λ (l : BusLog). IsNoLess l.hears (bus_log line).hears) (ap (log_of begun) number ∙ begun_at k was.x was.is)
        (goes.hears k line at) in
        no_less_twice (log_of logs (0 + k)).hears (bus_log was.x).hears (bus_log line).hears then now

    -- all that was so since the first logs is so still
    pub closed_again : start.plant ≡ old.plant.plant → IsClosed p logs first bus_log clock_log new
    closed_again plant =
        let same_plant : start.plant ≡ p = plant ∙ closed.plant in
        record {
          plant = goes.plant ∙ same_plant;
          legal = subst (λ (q : Plant). AreLegal q new.plant.history) same_plant goes.legal;
          idle = goes.idle;
          buses = λ k line at.
              let far = slice_get_within new.buses.items k line at in
              let was = there old.buses.items k (omega (arith, far, count)) in
              let number : 0 + k ≡ k = omega arith in
              subst (λ (h : List Event). IsLinked (log_of logs (0 + k)) (0 + k) h (bus_log line)) (sym grew)
              (linked_on (log_of logs (0 + k)) (log_of (map bus_log old.buses.items) (0 + k)) (bus_log line) (0 + k)
              front.later old.plant.history
              (subst (λ (l : BusLog). IsLinked (log_of logs (0 + k)) (0 + k) old.plant.history l)
              (sym (ap (log_of (map bus_log old.buses.items)) number ∙ log_stands bus_log old.buses.items k was.x was.is))
              (closed.buses k was.x was.is))
              (linked_now k line at));
          hears = no_less_now;
          clock =
              given_now
              ∙ (ap (λ (given : List ℕ). given ++ given_in front.later) closed.clock
              ∙ (append_assoc first.given (given_in old.plant.history) (given_in front.later)
              ∙ (ap (λ (given : List ℕ). first.given ++ given) (sym (given_on front.later old.plant.history))
              ∙ ap (λ (h : List Event). first.given ++ given_in h) (sym grew))));
          moments = goes.moments ∙ closed.moments;
          asks = no_less_twice first.asks (clock_log old.clock).asks (clock_log new.clock).asks closed.asks goes.asks;
        }
