-- What is left is done, and the run stays closed.
use Rattle.std.proofs.Common.{◌≡◌, ℕ, zero, suc, ◌+◌, ◌<◌, List, [], ◌∷◌, ◌++◌, map, length, refl, sym, ap, ◌∙◌}
use Rattle.std.proofs.Common.{subst, arith, inl, inr, Some, true}
use Rattle.std.proofs.lemmas.List.{length-map}
use Rattle.std.proofs.lemmas.Option.{slice_get_within}
use Rattle.std.specs.Prelude.{slice_get}
use Rattle.buslink.specs.BusLog.{BusLog}
use Rattle.buslink.specs.ClockLog.{ClockLog}
use Rattle.plantevents.specs.Legal.{AreLegal}
use Rattle.plantevents.specs.Plants.{Plant}
use Rattle.plantturns.specs.Halt.{Halt}
use Rattle.plantturns.specs.Halt.TheVariants.{Memory, Refused, Unwritten}
use Rattle.plantturns.proofs.Refused.{stuck_is_full}
use Rattle.workers.specs.Endings.{ended_of}
use Rattle.workers.specs.declared.ended.Ended.TheVariants.{Asked, Limit}
use Rattle.plant.specs.Shown.{Shown, is_full}
use Rattle.plantturns.specs.Each.{Each}
use Rattle.plantturns.specs.Links.{IsNoLess, log_of}
use Rattle.plantturns.proofs.Counts.{grown_since, no_less_since}
use Rattle.plantturns.specs.Driven.{CannotGoOn, IsDriven}
use Rattle.plantturns.specs.Links.{HasHeard, IsLinked}
use Rattle.plantturns.specs.Quiet.{HasNoFrame, IsQuiet}
use Rattle.plantturns.proofs.Turned.{log_stands}
use Rattle.workers.specs.Closings.{IsClosed}
use Rattle.workers.specs.declared.closed.ClosedParts.{ClosedParts}
use Rattle.workers.proofs.Lists.{each_at}
use Rattle.workers.proofs.Told.{there}

-- ---- what is so of each of a list, and of each that a function makes of it

pub made : {X Y : Type 0} (f : X → Y) (xs : List X) (k : ℕ) (x : X) → slice_get xs k ≡ Some x
    → slice_get (map f xs) k ≡ Some (f x)
made f [] k x is = absurd (cc)
made f (y ∷ ys) zero x is =
    let same : y ≡ x = cc in ap (λ w. Some (f w)) same
made f (y ∷ ys) (suc k) x is = made f ys k x is

pub of_made : {X Y : Type 0} (P : ℕ → Y → Type 0) (f : X → Y) (n : ℕ) (xs : List X) → Each P n (map f xs)
    → Each (λ k x. P k (f x)) n xs
of_made P f n xs all k x is = all k (f x) (made f xs k x is)

pub all_made : {X Y : Type 0} (P : ℕ → Y → Type 0) (f : X → Y) (n : ℕ) (xs : List X) → Each (λ k x. P k (f x)) n xs
    → Each P n (map f xs)
all_made P f n [] all k y is = absurd (cc)
all_made P f n (x ∷ xs) all zero y is =
    let same : f x ≡ y = cc in subst (λ w. P (n + 0) w) same (all 0 x refl)
all_made P f n (x ∷ xs) all (suc k) y is =
    let there : n + 1 + k ≡ n + suc k = omega arith in
    subst (λ m. P m y) there
    (all_made P f (n + 1) xs
    (λ j w at. let e : n + suc j ≡ n + 1 + j = omega arith in subst (λ m. P m (f w)) e (all (suc j) w at))
    k y is)

-- ---- the calls that heard

-- of these lines the counts of the calls that heard are no less than first
abbrev AreNoLess : {B : Type 0} → List BusLog → (B → BusLog) → List B → Type 0
AreNoLess logs bus_log lines = Each (λ b line. IsNoLess (log_of logs b).hears (bus_log line).hears) 0 lines

-- so it is by their numbers
no_less_at : {B : Type 0} (logs : List BusLog) (bus_log : B → BusLog) (lines : List B) → AreNoLess logs bus_log lines
    → (b : ℕ) → b < length lines → IsNoLess (log_of logs b).hears (log_of (map bus_log lines) b).hears
no_less_at logs bus_log lines are b inside =
    let at = there lines b inside in
    subst (λ log. IsNoLess (log_of logs b).hears log.hears) (sym (log_stands bus_log lines b at.x at.is))
    (each_at (λ k line. IsNoLess (log_of logs k).hears (bus_log line).hears) lines b at.x are at.is)

same_count : {X Y : Type 0} (f : X → Y) (xs ys : List X) → length (map f ys) ≡ length (map f xs)
    → length ys ≡ length xs
same_count f xs ys same = sym (length-map ys f) ∙ (same ∙ length-map xs f)

-- and so it is after more calls
still_no_less : {B : Type 0} (logs : List BusLog) (bus_log : B → BusLog) (before after : List B)
    → length (map bus_log after) ≡ length (map bus_log before)
    → ((b : ℕ) → HasHeard (log_of (map bus_log before) b) (log_of (map bus_log after) b))
    → AreNoLess logs bus_log before → AreNoLess logs bus_log after
still_no_less logs bus_log before after same more are k line is =
    let numbered : k ≡ 0 + k = omega arith in
    let count = same_count bus_log before after same in
    let far = slice_get_within after k line is in
    let inside : k < length before = omega (arith, far, count) in
    subst (λ b. IsNoLess (log_of logs b).hears (bus_log line).hears) numbered
    (subst (λ log. IsNoLess (log_of logs k).hears log.hears) (log_stands bus_log after k line is)
    (no_less_since (log_of logs k).hears (log_of (map bus_log before) k).hears (log_of (map bus_log after) k).hears
    (no_less_at logs bus_log before are k inside) (more k)))

-- a bus that was asked since a later log was asked since an earlier one
frame_from : (p : Shown) (b : ℕ) (first second log : BusLog) → IsNoLess first.hears second.hears
    → HasNoFrame p b second log → HasNoFrame p b first log
frame_from p b first second log was (inl down) = inl down
frame_from p b first second log was (inr silent) =
    inr (record {
      none = silent.none;
      asked = grown_since first.hears second.hears log.hears was silent.asked;
      all = silent.all;
    })

-- ---- the plant after what was left

module _ {B C : Type 0} (p : Plant) (logs : List BusLog) (first : ClockLog) (bus_log : B → BusLog)
    (clock_log : C → ClockLog) (old new : ClosedParts B C) where
  pub still_closed : AreLegal new.plant.plant new.plant.history
      → IsDriven old.plant new.plant (map bus_log old.buses.items) (map bus_log new.buses.items)
      → new.clock ≡ old.clock → IsClosed p logs first bus_log clock_log old
      → IsClosed p logs first bus_log clock_log new
  still_closed legal finish clock closed =
      let same = finish.plant ∙ closed.plant in
      let linked = λ (b : ℕ) (log : BusLog). IsLinked (log_of logs b) b old.plant.history log in
      let linked_on = λ (b : ℕ) (log : BusLog). IsLinked (log_of logs b) b new.plant.history log in
      record {
        plant = same;
        legal = subst (λ q. AreLegal q new.plant.history) same legal;
        idle = finish.idle closed.idle;
        buses =
            of_made linked_on bus_log 0 new.buses.items
            (finish.linked logs (all_made linked bus_log 0 old.buses.items closed.buses));
        hears =
            still_no_less logs bus_log old.buses.items new.buses.items finish.count finish.hears closed.hears;
        clock =
            ap (λ c. (clock_log c).given) clock
            ∙ (closed.clock ∙ ap (λ given. first.given ++ given) (sym finish.given));
        moments = ap (λ c. (clock_log c).moments) clock ∙ closed.moments;
        asks = subst (λ c. IsNoLess first.asks (clock_log c).asks) (sym clock) closed.asks;
      }

-- what is quiet since the lock was opened for good is quiet since the run's start
pub quiet_from_start : {B C : Type 0} (p : Plant) (logs : List BusLog) (first : ClockLog) (bus_log : B → BusLog)
    (clock_log : C → ClockLog) (old : ClosedParts B C) (q : Shown) (after : List BusLog)
    → length old.buses.items ≡ old.plant.plant.plan.buses → q.plant ≡ old.plant.plant
    → IsClosed p logs first bus_log clock_log old → IsQuiet q (map bus_log old.buses.items) after
    → IsQuiet q logs after
quiet_from_start p logs first bus_log clock_log old q after count same closed quiet =
    let buses : q.plant.plan.buses ≡ old.plant.plant.plan.buses = ap (λ (x : Plant). x.plan.buses) same in
    record {
      scanned = quiet.scanned;
      sent = quiet.sent;
      heard = λ b known.
          let inside : b < length old.buses.items = omega (arith, known, count, buses) in
          frame_from q b (log_of logs b) (log_of (map bus_log old.buses.items) b) (log_of after b)
          (no_less_at logs bus_log old.buses.items closed.hears b inside) (quiet.heard b known);
    }

-- where it cannot go on, and ends since the history is full, it is full
pub is_full_at : (q : Shown) (halt : Halt) → CannotGoOn q halt → ended_of halt ≡ Limit → is_full q ≡ true
is_full_at q Memory stops is = absurd (cc)
is_full_at q (Unwritten error) stops is = absurd (cc)
is_full_at q (Refused refusal) stops is = stuck_is_full q stops.1

-- it does not end as the clock's end
pub never_asked : (halt : Halt) → ended_of halt ≡ Asked → ⊥
never_asked Memory is = absurd (cc)
never_asked (Unwritten error) is = absurd (cc)
never_asked (Refused refusal) is = absurd (cc)
