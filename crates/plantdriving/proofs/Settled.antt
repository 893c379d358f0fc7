-- A turn of the bus of a number, turns of all buses, rounds, and the last round, in which nothing was done.
use Rattle.std.proofs.Common.{◌≡◌, ◌≢◌, ℕ, ◌+◌, ◌<◌, ◌≤◌, Bool}
use Rattle.std.proofs.Common.{true, false, ◌||◌, List, ◌++◌, map, length, length-append, get_or, Some}
use Rattle.std.proofs.Common.{sym, ap, ◌∙◌, subst, arith}
use Rattle.std.specs.Prelude.{OnOk, Result, Ok, Err, slice_get, slice_set}
use Rattle.buslink.specs.BusLog.{BusLog}
use Rattle.plantevents.specs.declared.event.Event.{Event}
use Rattle.plantevents.specs.Plants.{Plant}
use Rattle.plant.specs.Shown.{Shown}
use Rattle.plantdriving.specs.declared.halt.Halt.{Halt}
use Rattle.plantdriving.specs.Links.{log_of}
use Rattle.plantdriving.specs.Driven.{IsDriven}
use Rattle.plantdriving.specs.Links.{HasHeard}
use Rattle.plantdriving.specs.Quiet.{HasNoFrame, HasNoHandout, HasNoScan, IsQuiet}
use Rattle.plantdriving.specs.TurnSteps.{AreQuiet, HaveTurned, IsBusStep, IsScanStep, Tells}
use Rattle.plantdriving.proofs.Turned.{did_nothing, did_something, frame_moved, frame_since, handout_moved, longer}
use Rattle.plantdriving.proofs.Turned.{finish_of_step, log_changed, log_kept, log_stands}
use Rattle.plantdriving.proofs.Turned.{stands, turned_nothing, turned_some}

-- ---- two things, one after the other

longer_by : (p q : Shown) (more : List Event) → q.history ≡ more ++ p.history → length p.history ≤ length q.history
longer_by p q more is = let l = ap length is in let a = length-append more p.history in omega arith

-- something was done, or neither had anything to do
did_either : (p q r : Shown) (one two all : Type 0) (first second : Bool) → Tells p q one (Ok first)
    → Tells q r two (Ok second) → length p.history ≤ length q.history → length q.history ≤ length r.history
    → (q.history ≡ p.history → r.history ≡ q.history → one → two → all) → Tells p r all (Ok (first || second))
did_either p q r one two all true second did after a b both = omega (arith, did, b)
did_either p q r one two all false true did after a b both = omega (arith, a, after)
did_either p q r one two all false false did after a b both = (after.0 ∙ did.0, both did.0 after.0 did.1 after.1)

-- ---- the bus of a number, and the line that is read under it

there_at : {B : Type 0} → (lines : List B) (bus from : ℕ) (line : B) → from ≡ bus → from < length lines
    → line ≡ get_or lines from line → slice_get lines bus ≡ Some line
there_at lines bus from line same below read =
    subst (λ (n : ℕ). slice_get lines n ≡ Some line) same (stands lines from line below read)

pub finish_at : {B : Type 0} → (log : B → BusLog) (p q : Shown) (lines : List B) (bus from : ℕ) (line after : B)
    → from ≡ bus → from < length lines → line ≡ get_or lines from line → IsBusStep bus p q (log line) (log after)
    → IsDriven p q (map log lines) (map log (slice_set lines from after))
finish_at log p q lines bus from line after same below read step =
    finish_of_step log p q lines from line after (stands lines from line below read)
    (subst (λ (n : ℕ). IsBusStep n p q (log line) (log after)) (sym same) step)

pub others_at : {B : Type 0} → (log : B → BusLog) (lines : List B) (bus from : ℕ) (after : B) → from ≡ bus
    → (b : ℕ) → b ≢ bus → log_of (map log (slice_set lines from after)) b ≡ log_of (map log lines) b
others_at log lines bus from after same b other = log_kept log lines from after b (λ is. other (is ∙ same))

pub tells_at : {B : Type 0} → (log : B → BusLog) (p q : Shown) (lines : List B) (bus from : ℕ) (line after : B)
    (result : Result Bool Halt) → from ≡ bus → from < length lines → line ≡ get_or lines from line
    → Tells p q (HasNoHandout p bus × HasNoFrame p bus (log line) (log after)) result
    → Tells p q (HasNoHandout p bus × HasNoFrame p bus (log_of (map log lines) bus)
    (log_of (map log (slice_set lines from after)) bus)) result
tells_at log p q lines bus from line after result same below read tells =
    let there : slice_get lines bus ≡ Some line = there_at lines bus from line same below read in
    let now : log_of (map log (slice_set lines from after)) bus ≡ log after =
    subst (λ (n : ℕ). log_of (map log (slice_set lines from after)) n ≡ log after) same
    (log_changed log lines from line after (stands lines from line below read)) in
    subst (λ (l : BusLog). Tells p q (HasNoHandout p bus × HasNoFrame p bus l
    (log_of (map log (slice_set lines from after)) bus)) result) (sym (log_stands log lines bus line there))
    (subst (λ (l : BusLog). Tells p q (HasNoHandout p bus × HasNoFrame p bus (log line) l) result) (sym now) tells)

pub silent_at : {A B : Type 0} → (log : B → BusLog) (q : Shown) (lines : List B) (bus from : ℕ) (line after : B)
    (result : Result A Halt) → from ≡ bus → from < length lines → line ≡ get_or lines from line
    → OnOk result (HasNoFrame q bus (log line) (log after))
    → OnOk result (HasNoFrame q bus (log_of (map log lines) bus) (log_of (map log (slice_set lines from after)) bus))
silent_at log q lines bus from line after result same below read silent =
    let there : slice_get lines bus ≡ Some line = there_at lines bus from line same below read in
    let now : log_of (map log (slice_set lines from after)) bus ≡ log after =
    subst (λ (n : ℕ). log_of (map log (slice_set lines from after)) n ≡ log after) same
    (log_changed log lines from line after (stands lines from line below read)) in
    subst (λ (l : BusLog). OnOk result (HasNoFrame q bus l (log_of (map log (slice_set lines from after)) bus)))
    (sym (log_stands log lines bus line there))
    (subst (λ (l : BusLog). OnOk result (HasNoFrame q bus (log line) l)) (sym now) silent)

-- ---- turns of all buses

pub turned_did : (p q r : Shown) (before between after : List BusLog) (n : ℕ) (why : Type 0) (did any : Bool)
    → IsDriven p q before between → Tells q r why (Ok did) → did ≡ true → any ≡ true
    → HaveTurned p r before after (n + 1) any
turned_did p q r before between after n why did any finish tells was is =
    subst (λ (k : Bool). HaveTurned p r before after (n + 1) k) (sym is)
    (turned_some p q r before between after n finish (did_something why q r did tells was))

pub turned_not : (p q r : Shown) (before between after : List BusLog) (n : ℕ) (did any now : Bool)
    → HaveTurned p q before between n any → IsDriven p q before between
    → ((b : ℕ) → b ≢ n → log_of after b ≡ log_of between b)
    → Tells q r (HasNoHandout q n × HasNoFrame q n (log_of between n) (log_of after n)) (Ok did) → did ≡ false
    → now ≡ any → HaveTurned p r before after (n + 1) now
turned_not p q r before between after n did any now turned finish others tells was is =
    let none : Type 0 = HasNoHandout q n × HasNoFrame q n (log_of between n) (log_of after n) in
    let nothing = did_nothing none q r did tells was in
    subst (λ (k : Bool). HaveTurned p r before after (n + 1) k) (sym is)
    (turned_nothing p q r before between after n any turned finish nothing.0 others nothing.1.0 nothing.1.1)

-- ---- rounds

pub scan_moved : (p q : Shown) → q.history ≡ p.history → q.plant ≡ p.plant → HasNoScan q → HasNoScan p
scan_moved p q history plant none =
    subst (λ (m : Plant). HasNoScan (record p { plant = m })) plant
    (subst (λ (h : List Event). HasNoScan (record p { plant = q.plant; history = h })) history none)

quiet_round : (p q r : Shown) (before after : List BusLog) → IsScanStep p q → IsDriven q r before after
    → q.history ≡ p.history → r.history ≡ q.history → HasNoScan p → AreQuiet q before after q.plant.plan.buses
    → IsQuiet r before after
quiet_round p q r before after scan finish was now none quiet = record {
  scanned = scan_moved r p (sym (now ∙ was)) (sym (finish.plant ∙ scan.later.plant)) none;
  sent = λ b known.
      handout_moved r q b (sym now) (sym finish.plant)
      (quiet.sent b (subst (λ (m : Plant). b < m.plan.buses) finish.plant known));
  heard = λ b known.
      frame_moved r q b (log_of before b) (log_of after b) (sym now)
      (quiet.heard b (subst (λ (m : Plant). b < m.plan.buses) finish.plant known));
}

pub round_tells : (p q r : Shown) (before after : List BusLog) (scanned turned : Bool) → IsScanStep p q
    → IsDriven q r before after → Tells p q (HasNoScan p) (Ok scanned)
    → Tells q r (AreQuiet q before after q.plant.plan.buses) (Ok turned)
    → Tells p r (IsQuiet r before after) (Ok (scanned || turned))
round_tells p q r before after scanned turned scan finish one two =
    did_either p q r (HasNoScan p) (AreQuiet q before after q.plant.plan.buses) (IsQuiet r before after) scanned turned
    one two (longer_by p q scan.later.later scan.later.history) (longer q r before after finish)
    (quiet_round p q r before after scan finish)

-- ---- until nothing is left

-- what is quiet since a later log is quiet since an earlier one
pub quiet_since : (q : Shown) (before between after : List BusLog)
    → ((b : ℕ) → HasHeard (log_of before b) (log_of between b)) → IsQuiet q between after → IsQuiet q before after
quiet_since q before between after hears quiet = record {
  scanned = quiet.scanned;
  sent = quiet.sent;
  heard = λ b known.
      frame_since q b (log_of before b) (log_of between b) (log_of after b) (hears b) (quiet.heard b known);
}

pub quiet_on : {A : Type 0} → (q : Shown) (before between after : List BusLog) (result : Result A Halt)
    → ((b : ℕ) → HasHeard (log_of before b) (log_of between b)) → OnOk result (IsQuiet q between after)
    → OnOk result (IsQuiet q before after)
quiet_on q before between after (Ok done) hears quiet = quiet_since q before between after hears quiet
quiet_on q before between after (Err halt) hears quiet = tt

-- each round in which something was done made the history longer
pub long_enough : (p q r : Shown) (n : ℕ) (why : Type 0) (did : Bool) → n + length p.history ≤ length q.history
    → Tells q r why (Ok did) → did ≡ true → n + 1 + length p.history ≤ length r.history
long_enough p q r n why did long tells was =
    let more = did_something why q r did tells was in omega (arith, long, more)
