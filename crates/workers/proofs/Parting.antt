-- Buses and Shares, put together and taken apart.
use Rattle.std.proofs.Common.{◌≡◌, ℕ, zero, suc, ◌+◌, ◌<◌, ◌≤◌, length, refl, List, ◌++◌, [], sym, ap, ◌∙◌, subst}
use Rattle.std.proofs.Common.{All, arith}
use Rattle.std.proofs.lemmas.List.{append-nil}
use Rattle.std.proofs.lemmas.Option.{get_or_from_slice_get, slice_get-map, slice_get_within}
use Rattle.std.specs.List.{range_with_len}
use Rattle.std.specs.Prelude.{map, option_map, slice_get, Some}
use Rattle.limits.specs.Limits.{most_seats}
use Rattle.buslink.specs.declared.marks.Sent.{Sent}
use Rattle.plantevents.specs.declared.event.Event.{Event}
use Rattle.plantevents.specs.declared.role.Role.{Role}
use Rattle.plantevents.specs.declared.role.Role.TheVariants.{Worker, Bus, Clock}
use Rattle.plantevents.specs.Histories.{moment, scan, hand, sent_in, heard_in, downs_in, ups_in, given_in}
use Rattle.plantevents.specs.Parts.{Placed, part, shown_scan, shown_hand, shown_sent, shown_heard, shown_downs, shown_ups}
use Rattle.plantevents.specs.Parts.{shown_given, shown_moment}
use Rattle.buslink.specs.BusLog.{BusLog}
use Rattle.buslink.specs.ClockLog.{ClockLog}
use Rattle.plant.specs.Shown.{Shown}
use Rattle.plantturns.specs.Each.{Each}
use Rattle.plantturns.specs.Receipts.{ShareParts, AreFresh, IsFresh, seat_at, whole}
use Rattle.plantturns.specs.Seats.{AreUnused}
use Rattle.planttallies.specs.SeatTallies.{SeatAmount}
use Rattle.planttallies.specs.Openings.{fresh}
use Rattle.plantturns.specs.Links.{IsNoLess, log_of, so_many_more, no_frame}
use Rattle.plantturns.specs.Logs.{IsServed, IsTimed, IsWorker}
use Rattle.plantturns.specs.Links.{IsLinked}
use Rattle.plantturns.specs.Open.{HasNothingOpen}
use Rattle.workers.specs.Beginnings.{IsInStep}
use Rattle.workers.specs.LinkedShares.{AreWorkers}
use Rattle.workers.proofs.Following.{all_later, moment_within}

-- each line has its own log among those of all
pub logs_of_lines : {B : Type 0} (log : B → BusLog) (logs : List BusLog) (lines : List B) → logs ≡ map log lines
    → Each (λ k line. log line ≡ log_of logs k) 0 lines
logs_of_lines log logs lines is k line there =
    let same : 0 + k ≡ k = omega arith in
    let mapped : slice_get logs k ≡ Some (log line) =
    ap (λ (x : List BusLog). slice_get x k) is ∙ slice_get-map log lines k ∙ ap (option_map log) there in
    subst (λ m. log line ≡ log_of logs m) (sym same)
    (sym (get_or_from_slice_get logs k (log line) no_frame mapped))

-- before its first receipt a Share has its role's part of the history at the start
whole_is : (start : Shown) (r : Role) (s : ShareParts) → IsFresh start r s → whole s ≡ part r start.history
whole_is start r s is = ap (λ (x : List Placed). x ++ s.before) is.receipts ∙ is.before

fresh_worker : (start : Shown) (w : ℕ) (s : ShareParts) → w < start.plant.workers → HasNothingOpen start
    → scan w start.history ≡ shown_scan (part (Worker w) start.history) → IsFresh start (Worker w) s → IsWorker w s
fresh_worker start w s known open_none law is = record {
  role = is.role;
  idle = ap shown_scan (whole_is start (Worker w) s is) ∙ (sym law ∙ open_none.no_scan w known);
}

pub fresh_workers : (start : Shown) (shares : List ShareParts) → HasNothingOpen start
    → ((w : ℕ) (past : List Event) → scan w past ≡ shown_scan (part (Worker w) past))
    → AreFresh start Worker start.plant.workers shares → AreWorkers 0 shares
fresh_workers start shares open_none law are k s at =
    let far = slice_get_within shares k s at in
    let count = are.0 in
    fresh_worker start (0 + k) s (omega (arith, far, count)) open_none (law (0 + k) start.history) (are.1 k s at)

fresh_served : (start : Shown) (b : ℕ) (s : ShareParts) (first log : BusLog) → b < start.plant.plan.buses
    → HasNothingOpen start → hand b start.history ≡ shown_hand (part (Bus b) start.history)
    → sent_in b start.history ≡ shown_sent (part (Bus b) start.history)
    → heard_in b start.history ≡ shown_heard (part (Bus b) start.history)
    → downs_in b start.history ≡ shown_downs (part (Bus b) start.history)
    → ups_in b start.history ≡ shown_ups (part (Bus b) start.history) → IsLinked first b start.history log
    → IsNoLess first.hears log.hears → IsFresh start (Bus b) s → IsServed first b s log
fresh_served start b s first log known open_none hands sents heards downs ups linked hears is =
    let all : whole s ≡ part (Bus b) start.history = whole_is start (Bus b) s is in
    record {
      role = is.role;
      idle = ap shown_hand all ∙ (sym hands ∙ open_none.no_hand b known);
      number = linked.same.number;
      arrivals = linked.same.arrivals;
      sent = linked.sent ∙ ap (λ (x : List Sent). first.sent ++ x) (sents ∙ ap shown_sent (sym all));
      heard = linked.heard ∙ ap (λ (x : List ℕ). first.heard ++ x) (heards ∙ ap shown_heard (sym all));
      failed = linked.failed ∙ ap (λ n. so_many_more n first.failures) (downs ∙ ap shown_downs (sym all));
      mended = linked.mended ∙ ap (λ n. so_many_more n first.mends) (ups ∙ ap shown_ups (sym all));
      hears = hears;
    }

-- so is the Share of each bus
pub fresh_buses : {B : Type 0} (start : Shown) (logs : List BusLog) (log : B → BusLog) (lines : List B)
    → length lines ≡ start.plant.plan.buses → HasNothingOpen start
    → ((b : ℕ) (past : List Event) → hand b past ≡ shown_hand (part (Bus b) past))
    → ((b : ℕ) (past : List Event) → sent_in b past ≡ shown_sent (part (Bus b) past))
    → ((b : ℕ) (past : List Event) → heard_in b past ≡ shown_heard (part (Bus b) past))
    → ((b : ℕ) (past : List Event) → downs_in b past ≡ shown_downs (part (Bus b) past))
    → ((b : ℕ) (past : List Event) → ups_in b past ≡ shown_ups (part (Bus b) past))
    → Each (λ b line. IsLinked (log_of logs b) b start.history (log line)) 0 lines
    → Each (λ b line. IsNoLess (log_of logs b).hears (log line).hears) 0 lines
    → Each (λ b line. (s : ShareParts) → IsFresh start (Bus b) s → IsServed (log_of logs b) b s (log line)) 0 lines
fresh_buses start logs log lines count open_none hands sents heards downs ups linked hears k line at s is =
    let far = slice_get_within lines k line at in
    let h = start.history in
    fresh_served start (0 + k) s (log_of logs (0 + k)) (log line) (omega (arith, far, count)) open_none (hands (0 + k) h)
    (sents (0 + k) h) (heards (0 + k) h) (downs (0 + k) h) (ups (0 + k) h) (linked k line at) (hears k line at) is

pub fresh_timed : (start : Shown) (s : ShareParts) (first log : ClockLog)
    → moment start.history ≡ shown_moment (part Clock start.history)
    → given_in start.history ≡ shown_given (part Clock start.history)
    → log.given ≡ first.given ++ given_in start.history → log.moments ≡ first.moments → IsNoLess first.asks log.asks
    → IsFresh start Clock s → IsTimed first s log
fresh_timed start s first log moments givens given scripted asks is =
    let all : whole s ≡ part Clock start.history = whole_is start Clock s is in
    record {
      role = is.role;
      moments = scripted;
      given = given ∙ ap (λ (x : List ℕ). first.given ++ x) (givens ∙ ap shown_given (sym all));
      in_time = λ m not_before.
          let of_all = subst (λ (xs : List ℕ). All (λ earlier. earlier ≤ m) xs) given not_before in
          subst (λ k. k ≤ m) (moments ∙ ap shown_moment (sym all))
          (moment_within start.history m
          (all_later (λ earlier. earlier ≤ m) first.given (given_in start.history) of_all));
      asks = asks;
    }

-- ---- before the first event

pub open_at_first : (start : Shown) → start.history ≡ [] → HasNothingOpen start
open_at_first start empty = record {
  no_scan = λ w known. ap (scan w) empty;
  no_hand = λ b known. ap (hand b) empty;
}

linked_at_first : (log : BusLog) (b : ℕ) → IsLinked log b [] log
linked_at_first log b = record {
  same = record { number = refl; arrivals = refl };
  sent = sym (append-nil log.sent);
  heard = sym (append-nil log.heard);
  failed = refl;
  mended = refl;
}

pub in_step_at_first : {B C : Type 0} (start : Shown) (bus_log : B → BusLog) (clock_log : C → ClockLog)
    (lines : List B) (clock : C) → start.history ≡ []
    → IsInStep start (map bus_log lines) (clock_log clock) bus_log clock_log lines clock
in_step_at_first start bus_log clock_log lines clock empty =
    let logs = map bus_log lines in
    let own = logs_of_lines bus_log logs lines refl in
    record {
      buses = λ k line at.
          subst (λ (h : List Event). IsLinked (log_of logs (0 + k)) (0 + k) h (bus_log line)) (sym empty)
          (subst (λ (l : BusLog). IsLinked l (0 + k) [] (bus_log line)) (own k line at)
          (linked_at_first (bus_log line) (0 + k)));
      hears = λ k line at.
          subst (λ (l : BusLog). IsNoLess l.hears (bus_log line).hears) (own k line at) (omega arith);
      given =
          sym
          (ap (λ (h : List Event). (clock_log clock).given ++ given_in h) empty
          ∙ append-nil (clock_log clock).given);
      moments = refl;
      asks = omega arith;
    }

-- the threads' tallies of new ledgers: one for each seat, in their order, without an amount
unused_from : (a n : ℕ) → Each (λ k (t : SeatAmount). (t.seat ≡ seat_at k) × (t.amount ≡ 0)) a
    (map fresh (range_with_len a n))
unused_from a zero k t at = absurd (cc)
unused_from a (suc n) zero t at =
    let same : fresh a ≡ t = cc in
    let here : a ≡ a + 0 = omega arith in
    subst (λ (x : SeatAmount). (x.seat ≡ seat_at (a + 0)) × (x.amount ≡ 0)) same (ap seat_at here, refl)
unused_from a (suc n) (suc k) t at =
    let there : a + 1 + k ≡ a + suc k = omega arith in
    subst (λ m. (t.seat ≡ seat_at m) × (t.amount ≡ 0)) there (unused_from (a + 1) n k t at)

pub all_unused : (tallies : List SeatAmount) → tallies ≡ map fresh (range_with_len 0 most_seats)
    → AreUnused (λ (t : SeatAmount). t.seat) (λ (t : SeatAmount). t.amount) 0 tallies
all_unused tallies is = record {
  count = let long = ap length is in omega (arith, long);
  each =
      subst (λ (xs : List SeatAmount). Each (λ k (t : SeatAmount). (t.seat ≡ seat_at k) × (t.amount ≡ 0)) 0 xs)
      (sym is)
      (unused_from 0 most_seats);
}
