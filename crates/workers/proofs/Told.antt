-- What the Shares say at the end, the history says.
use Rattle.std.proofs.Common.{◌≡◌, ℕ, zero, suc, ◌+◌, ◌<◌, List, [], ◌∷◌, ◌++◌, length, map, refl, sym, ap, ◌∙◌, subst}
use Rattle.std.proofs.Common.{arith, Some, None}
use Rattle.std.specs.Prelude.{slice_get}
use Rattle.buslink.specs.BusLog.{BusLog}
use Rattle.buslink.specs.ClockLog.{ClockLog}
use Rattle.plantevents.specs.declared.event.Event.{Event}
use Rattle.plantevents.specs.declared.role.Role.{Role}
use Rattle.plantevents.specs.declared.role.Role.TheVariants.{Worker, Bus, Clock}
use Rattle.plantevents.specs.Histories.{scan, hand, sent_in, heard_in, downs_in, ups_in, given_in}
use Rattle.plantevents.specs.Parts.{part, shown_scan, shown_hand, shown_sent, shown_heard, shown_downs, shown_ups}
use Rattle.plantevents.specs.Parts.{shown_given}
use Rattle.plantevents.specs.Plants.{Plant}
use Rattle.plant.specs.Shown.{Shown}
use Rattle.plantturns.specs.Each.{Each}
use Rattle.plantturns.specs.Receipts.{ShareParts, HasPart, HaveParts, whole}
use Rattle.plantturns.specs.Links.{IsLinked}
use Rattle.plantturns.specs.Open.{HasNothingOpen}
use Rattle.plantturns.specs.Links.{IsNoLess, log_of, so_many_more}
use Rattle.plantturns.specs.Logs.{IsServed, IsTimed, IsWorker}
use Rattle.workers.specs.LinkedShares.{AreServed, AreWorkers}
use Rattle.plantturns.specs.declared.bus_worker.BusWithShare.{BusWithShare}
use Rattle.workers.proofs.Lists.{each_at}

-- ---- one Share

part_is : (s : ShareParts) (r : Role) (h : List Event) → HasPart s h → s.role ≡ r → whole s ≡ part r h
part_is s r h has role = has.is ∙ ap (λ (x : Role). part x h) role

idle_worker : (w : ℕ) (s : ShareParts) (h : List Event) → IsWorker w s → HasPart s h
    → scan w h ≡ shown_scan (part (Worker w) h) → scan w h ≡ None
idle_worker w s h is has law = law ∙ ap shown_scan (sym (part_is s (Worker w) h has is.role)) ∙ is.idle

idle_bus : (first log : BusLog) (b : ℕ) (s : ShareParts) (h : List Event) → IsServed first b s log → HasPart s h
    → hand b h ≡ shown_hand (part (Bus b) h) → hand b h ≡ None
idle_bus first log b s h is has law = law ∙ ap shown_hand (sym (part_is s (Bus b) h has is.role)) ∙ is.idle

linked : (first log : BusLog) (b : ℕ) (s : ShareParts) (h : List Event) → IsServed first b s log → HasPart s h
    → sent_in b h ≡ shown_sent (part (Bus b) h) → heard_in b h ≡ shown_heard (part (Bus b) h)
    → downs_in b h ≡ shown_downs (part (Bus b) h) → ups_in b h ≡ shown_ups (part (Bus b) h) → IsLinked first b h log
linked first log b s h is has sent heard downs ups =
    let all : whole s ≡ part (Bus b) h = part_is s (Bus b) h has is.role in
    record {
      same = record { number = is.number; arrivals = is.arrivals };
      sent = is.sent ∙ ap (λ x. first.sent ++ x) (ap shown_sent all ∙ sym sent);
      heard = is.heard ∙ ap (λ x. first.heard ++ x) (ap shown_heard all ∙ sym heard);
      failed = is.failed ∙ ap (λ n. so_many_more n first.failures) (ap shown_downs all ∙ sym downs);
      mended = is.mended ∙ ap (λ n. so_many_more n first.mends) (ap shown_ups all ∙ sym ups);
    }

pub timed : (first log : ClockLog) (s : ShareParts) (h : List Event) → IsTimed first s log → HasPart s h
    → given_in h ≡ shown_given (part Clock h) → log.given ≡ first.given ++ given_in h
timed first log s h is has given =
    is.given ∙ ap (λ x. first.given ++ x) (ap shown_given (part_is s Clock h has is.role) ∙ sym given)

-- ---- all Shares

pub record There {X : Type 0} (xs : List X) (k : ℕ) : Type 0 where
  pub x : X
  pub is : slice_get xs k ≡ Some x

pub there : {X : Type 0} (xs : List X) (k : ℕ) → k < length xs → There xs k
there [] k inside = absurd (omega arith)
there (y ∷ ys) zero inside = record { x = y; is = refl }
there (y ∷ ys) (suc k) inside =
    let next = there ys k (omega (arith, inside)) in record { x = next.x; is = next.is }

record From {X Y : Type 0} (f : X → Y) (xs : List X) (k : ℕ) (y : Y) : Type 0 where
  pub x : X
  pub is : slice_get xs k ≡ Some x
  pub of : f x ≡ y

from_map : {X Y : Type 0} (f : X → Y) (xs : List X) (k : ℕ) (y : Y) → slice_get (map f xs) k ≡ Some y → From f xs k y
from_map f [] k y at = absurd (cc)
from_map f (x ∷ xs) zero y at = let same : f x ≡ y = cc in record { x = x; is = refl; of = same }
from_map f (x ∷ xs) (suc k) y at = let next = from_map f xs k y at in record { x = next.x; is = next.is; of = next.of }

to_map : {X Y : Type 0} (f : X → Y) (xs : List X) (k : ℕ) (x : X) → slice_get xs k ≡ Some x
    → slice_get (map f xs) k ≡ Some (f x)
to_map f [] k x at = absurd (cc)
to_map f (y ∷ ys) zero x at = let same : y ≡ x = cc in ap (λ z. Some (f z)) same
to_map f (y ∷ ys) (suc k) x at = to_map f ys k x at

no_scans : (h : List Event) (workers : List ShareParts) (w : ℕ) → w < length workers → AreWorkers 0 workers
    → HaveParts workers h → scan w h ≡ shown_scan (part (Worker w) h) → scan w h ≡ None
no_scans h workers w inside are have law =
    let s = there workers w inside in
    idle_worker w s.x h (each_at IsWorker workers w s.x are s.is) (each_at (λ k t. HasPart t h) workers w s.x have s.is) law

has_at : {B J T : Type 0} (h : List Event) (served : List (BusWithShare B J T)) (k : ℕ) (s : BusWithShare B J T)
    → slice_get served k ≡ Some s → HaveParts (map (λ t. t.share) served) h → HasPart s.share h
has_at h served k s at have =
    each_at (λ n t. HasPart t h) (map (λ t. t.share) served) k s.share have (to_map (λ t. t.share) served k s at)

no_hands : {B J T : Type 0} (logs : List BusLog) (log : B → BusLog) (h : List Event)
    (served : List (BusWithShare B J T))
    (b : ℕ) → b < length served → AreServed logs log 0 served
    → HaveParts (map (λ s. s.share) served) h → hand b h ≡ shown_hand (part (Bus b) h) → hand b h ≡ None
no_hands logs log h served b inside are have law =
    let s = there served b inside in
    idle_bus (log_of logs b) (log s.x.line) b s.x.share h
    (each_at (λ k t. IsServed (log_of logs k) k t.share (log t.line)) served b s.x are s.is) (has_at h served b s.x s.is have)
    law

pub all_linked : {B J T : Type 0} (logs : List BusLog) (log : B → BusLog) (h : List Event)
    (served : List (BusWithShare B J T)) → AreServed logs log 0 served → HaveParts (map (λ s. s.share) served) h
    → ((b : ℕ) (past : List Event) → sent_in b past ≡ shown_sent (part (Bus b) past))
    → ((b : ℕ) (past : List Event) → heard_in b past ≡ shown_heard (part (Bus b) past))
    → ((b : ℕ) (past : List Event) → downs_in b past ≡ shown_downs (part (Bus b) past))
    → ((b : ℕ) (past : List Event) → ups_in b past ≡ shown_ups (part (Bus b) past))
    → Each (λ b line. IsLinked (log_of logs b) b h (log line)) 0 (map (λ s. s.line) served)
all_linked logs log h served are have sent heard downs ups k line at =
    let s = from_map (λ t. t.line) served k line at in
    let same : k ≡ 0 + k = omega arith in
    subst (λ b. IsLinked (log_of logs b) b h (log line)) same
    (subst (λ l. IsLinked (log_of logs k) k h (log l)) s.of
    (linked (log_of logs k) (log s.x.line) k s.x.share h
    (each_at (λ n t. IsServed (log_of logs n) n t.share (log t.line)) served k s.x are s.is)
    (has_at h served k s.x s.is have) (sent k h) (heard k h) (downs k h) (ups k h)))

pub all_no_less : {B J T : Type 0} (logs : List BusLog) (log : B → BusLog) (served : List (BusWithShare B J T))
    → AreServed logs log 0 served
    → Each (λ b line. IsNoLess (log_of logs b).hears (log line).hears) 0 (map (λ s. s.line) served)
all_no_less logs log served are k line at =
    let s = from_map (λ t. t.line) served k line at in
    let is : IsServed (log_of logs (0 + k)) (0 + k) s.x.share (log s.x.line) = are k s.x s.is in
    subst (λ l. IsNoLess (log_of logs (0 + k)).hears (log l).hears) s.of is.hears

-- nothing is open in a plant of which these Shares have the parts
pub nothing_open : {B J T : Type 0} (p : Shown) (start : Plant) (logs : List BusLog) (log : B → BusLog)
    (served : List (BusWithShare B J T)) (workers : List ShareParts) → p.plant ≡ start → length workers ≡ start.workers
    → length served ≡ start.plan.buses → AreWorkers 0 workers → HaveParts workers p.history → AreServed logs log 0 served
    → HaveParts (map (λ s. s.share) served) p.history
    → ((w : ℕ) (past : List Event) → scan w past ≡ shown_scan (part (Worker w) past))
    → ((b : ℕ) (past : List Event) → hand b past ≡ shown_hand (part (Bus b) past)) → HasNothingOpen p
nothing_open p start logs log served workers same many count are have are_served have_served scans hands =
    let as_many : p.plant.workers ≡ start.workers = ap (λ (x : Plant). x.workers) same in
    let buses : p.plant.plan.buses ≡ start.plan.buses = ap (λ (x : Plant). x.plan.buses) same in
    record {
      no_scan = λ w below.
          no_scans p.history workers w (omega (arith, below, as_many, many)) are have (scans w p.history);
      no_hand = λ b below.
          no_hands logs log p.history served b (omega (arith, below, buses, count)) are_served have_served
          (hands b p.history);
    }
