-- Turns of many buses, one after another, and rounds of turns.
use Rattle.std.proofs.Common.{◌≡◌, ◌≢◌, inl, inr, ⊎_elim, ℕ, eqb, ◌+◌, ◌<◌, ◌≤◌, Bool, true, false}
use Rattle.std.proofs.Common.{List, ◌++◌, map, length, length-append, length-set, Some, get_or, true≢false}
use Rattle.std.proofs.Common.{refl, sym, ap, ◌∙◌, subst, zero-add, arith, below_more}
use Rattle.std.proofs.lemmas.Bool.Decides.{eqb_tells}
use Rattle.std.proofs.lemmas.List.{append_assoc, length-map, map-set, get_or-set_other}
use Rattle.std.proofs.lemmas.Option.{slice_get-get_or, get_or_from_slice_get, slice_get-map}
use Rattle.std.specs.Prelude.{Ok, slice_get, slice_set, option_map}
use Rattle.plantevents.proofs.Commits.{get_set_same, get_set_other}
use Rattle.buslink.specs.BusLog.{BusLog, IsSameBus}
use Rattle.plantevents.specs.declared.event.Event.{Event}
use Rattle.plantevents.specs.Histories.{is_down}
use Rattle.plantevents.specs.Plants.{Plant}
use Rattle.plant.specs.Shown.{Shown}
use Rattle.plantdriving.specs.Links.{log_of, no_frame}
use Rattle.plantdriving.specs.Driven.{IsDriven}
use Rattle.plantdriving.specs.Links.{AreLinked, HasHeard, IsLinked}
use Rattle.plantdriving.specs.Quiet.{HasNoFrame, HasNoHandout, WasSilent}
use Rattle.plantdriving.specs.TurnSteps.{HaveTurned, IsBusStep, IsScanStep, Tells}
use Rattle.plantdriving.proofs.Linked.{asked_since, heard_then, linked_moved, same_bus_of, same_bus_then}

pub finish_then : (p q r : Shown) (before between after : List BusLog) → IsDriven p q before between
    → IsDriven q r between after → IsDriven p r before after
finish_then p q r before between after one two = record {
  later = two.later ++ one.later;
  history = two.history
      ∙ (ap (λ (h : List Event). two.later ++ h) one.history ∙ sym (append_assoc two.later one.later p.history));
  plant = two.plant ∙ one.plant;
  limit = two.limit ∙ one.limit;
  given = two.given ∙ one.given;
  idle = λ idle. two.idle (one.idle idle);
  count = two.count ∙ one.count;
  same = λ b. same_bus_then (log_of before b) (log_of between b) (log_of after b) (one.same b) (two.same b);
  linked = λ firsts are. two.linked firsts (one.linked firsts are);
  hears = λ b. heard_then (log_of before b) (log_of between b) (log_of after b) (one.hears b) (two.hears b);
}

pub longer : (p q : Shown) (before after : List BusLog) → IsDriven p q before after
    → length p.history ≤ length q.history
longer p q before after is =
    let l = ap length is.history in let a = length-append is.later p.history in omega arith

pub did_something : (why : Type 0) (p q : Shown) (done : Bool) → Tells p q why (Ok done) → done ≡ true
    → length p.history < length q.history
did_something why p q true tells did = tells
did_something why p q false tells did = absurd (true≢false (sym did))

pub did_nothing : (why : Type 0) (p q : Shown) (done : Bool) → Tells p q why (Ok done) → done ≡ false
    → (q.history ≡ p.history) × why
did_nothing why p q false tells did = tells
did_nothing why p q true tells did = absurd (true≢false did)

-- ---- logs of lines

-- what is read at a place stands there
pub stands : {X : Type 0} → (xs : List X) (place : ℕ) (x : X) → place < length xs → x ≡ get_or xs place x
    → slice_get xs place ≡ Some x
stands xs place x inside read = slice_get-get_or xs place x inside ∙ ap Some (sym read)

pub log_stands : {B : Type 0} → (log : B → BusLog) (lines : List B) (place : ℕ) (line : B)
    → slice_get lines place ≡ Some line → log_of (map log lines) place ≡ log line
log_stands log lines place line there =
    get_or_from_slice_get (map log lines) place (log line) no_frame
    (slice_get-map log lines place ∙ ap (option_map log) there)

-- the log of the line that was changed
pub log_changed : {B : Type 0} → (log : B → BusLog) (lines : List B) (place : ℕ) (before after : B)
    → slice_get lines place ≡ Some before → log_of (map log (slice_set lines place after)) place ≡ log after
log_changed log lines place before after there =
    log_stands log (slice_set lines place after) place after (get_set_same lines place after before there)

-- and of another one
pub log_kept : {B : Type 0} → (log : B → BusLog) (lines : List B) (place : ℕ) (after : B) (b : ℕ) → b ≢ place
    → log_of (map log (slice_set lines place after)) b ≡ log_of (map log lines) b
log_kept log lines place after b other =
    ap (λ (ls : List BusLog). log_of ls b) (map-set log lines place after)
    ∙ get_or-set_other (map log lines) place b (log after) no_frame other

-- ---- what one bus does, all do

linked_at : (firsts : List BusLog) (h : List Event) (logs : List BusLog) → AreLinked firsts h logs
    → (k : ℕ) (x : BusLog) → slice_get logs k ≡ Some x → IsLinked (log_of firsts k) k h x
linked_at firsts h logs are k x is =
    subst (λ (n : ℕ). IsLinked (log_of firsts n) n h x) (zero-add k) (are k x is)

are_linked : (firsts : List BusLog) (h : List Event) (logs : List BusLog)
    → ((k : ℕ) (x : BusLog) → slice_get logs k ≡ Some x → IsLinked (log_of firsts k) k h x) → AreLinked firsts h logs
are_linked firsts h logs each k x is =
    subst (λ (n : ℕ). IsLinked (log_of firsts n) n h x) (sym (zero-add k)) (each k x is)

linked_one : {B : Type 0} → (log : B → BusLog) (p q : Shown) (lines : List B) (place : ℕ) (line after : B)
    → slice_get lines place ≡ Some line → IsBusStep place p q (log line) (log after) → (firsts : List BusLog)
    → AreLinked firsts p.history (map log lines) → (k : ℕ) (x : BusLog)
    → slice_get (map log (slice_set lines place after)) k ≡ Some x → IsLinked (log_of firsts k) k q.history x
linked_one log p q lines place line after there step firsts are k x is =
    let at : slice_get (slice_set (map log lines) place (log after)) k ≡ Some x =
    subst (λ (ls : List BusLog). slice_get ls k ≡ Some x) (map-set log lines place after) is in
    let here : slice_get (map log lines) place ≡ Some (log line) =
    slice_get-map log lines place ∙ ap (option_map log) there in
    ⊎_elim (λ (same : (eqb k place ≡ true) × (k ≡ place)).
    let now : slice_get (slice_set (map log lines) place (log after)) place ≡ Some x =
    subst (λ (n : ℕ). slice_get (slice_set (map log lines) place (log after)) n ≡ Some x) same.1 at in
    let both : Some (log after) ≡ Some x = sym (get_set_same (map log lines) place (log after) (log line) here) ∙ now in
    let is_after : log after ≡ x = cc in
    let own = step.own (log_of firsts place) (linked_at firsts p.history (map log lines) are place (log line) here) in
    subst (λ (n : ℕ). IsLinked (log_of firsts n) n q.history x) (sym same.1)
    (subst (λ (l : BusLog). IsLinked (log_of firsts place) place q.history l) is_after own))
    (λ (other : (eqb k place ≡ false) × (k ≢ place)).
    let was : slice_get (map log lines) k ≡ Some x =
    sym (get_set_other (map log lines) place k (log after) (λ same. other.1 (sym same))) ∙ at in
    linked_moved (log_of firsts k) k p.history q.history x (step.others k other.1)
    (linked_at firsts p.history (map log lines) are k x was))
    (eqb_tells k place)

linked_all : {B : Type 0} → (log : B → BusLog) (p q : Shown) (lines : List B) (place : ℕ) (line after : B)
    → slice_get lines place ≡ Some line → IsBusStep place p q (log line) (log after) → (firsts : List BusLog)
    → AreLinked firsts p.history (map log lines) → AreLinked firsts q.history (map log (slice_set lines place after))
linked_all log p q lines place line after there step firsts are =
    are_linked firsts q.history (map log (slice_set lines place after))
    (linked_one log p q lines place line after there step firsts are)

pub finish_of_step : {B : Type 0} → (log : B → BusLog) (p q : Shown) (lines : List B) (place : ℕ) (line after : B)
    → slice_get lines place ≡ Some line → IsBusStep place p q (log line) (log after)
    → IsDriven p q (map log lines) (map log (slice_set lines place after))
finish_of_step log p q lines place line after there step = record {
  later = step.later.later;
  history = step.later.history;
  plant = step.later.plant;
  limit = step.later.limit;
  given = step.later.given;
  idle = step.later.idle;
  count = length-map (slice_set lines place after) log
      ∙ (length-set lines place after ∙ sym (length-map lines log));
  same = λ b.
      ⊎_elim (λ (at : (eqb b place ≡ true) × (b ≡ place)).
      subst (λ (n : ℕ). IsSameBus (log_of (map log lines) n) (log_of (map log (slice_set lines place after)) n))
      (sym at.1)
      (subst (λ (l : BusLog). IsSameBus l (log_of (map log (slice_set lines place after)) place))
      (sym (log_stands log lines place line there))
      (subst (λ (l : BusLog). IsSameBus (log line) l) (sym (log_changed log lines place line after there)) step.same)))
      (λ (other : (eqb b place ≡ false) × (b ≢ place)).
      same_bus_of (log_of (map log lines) b) (log_of (map log (slice_set lines place after)) b)
      (log_kept log lines place after b other.1))
      (eqb_tells b place);
  linked = linked_all log p q lines place line after there step;
  hears = λ b.
      ⊎_elim (λ (same : (eqb b place ≡ true) × (b ≡ place)).
      subst (λ (n : ℕ). HasHeard (log_of (map log lines) n) (log_of (map log (slice_set lines place after)) n))
      (sym same.1)
      (subst (λ (l : BusLog). HasHeard l (log_of (map log (slice_set lines place after)) place))
      (sym (log_stands log lines place line there))
      (subst (λ (l : BusLog). HasHeard (log line) l) (sym (log_changed log lines place line after there)) step.hears)))
      (λ (other : (eqb b place ≡ false) × (b ≢ place)).
      inl (ap (λ (l : BusLog). l.hears) (log_kept log lines place after b other.1)))
      (eqb_tells b place);
}

pub finish_of_scan : (p q : Shown) (logs : List BusLog) → IsScanStep p q → IsDriven p q logs logs
finish_of_scan p q logs step = record {
  later = step.later.later;
  history = step.later.history;
  plant = step.later.plant;
  limit = step.later.limit;
  given = step.later.given;
  idle = step.later.idle;
  count = refl;
  same = λ b. record { number = refl; arrivals = refl };
  linked = λ firsts are.
      are_linked firsts q.history logs (λ k x is.
      linked_moved (log_of firsts k) k p.history q.history x (step.buses k)
      (linked_at firsts p.history logs are k x is));
  hears = λ b. inl refl;
}

-- ---- turns of all buses

-- no bus had its turn yet
pub turned_none : (p : Shown) (logs : List BusLog) → HaveTurned p p logs logs 0 false
turned_none p logs = record {
  some = λ is. absurd (true≢false (sym is));
  none = λ _. (
    refl,
    record {
      sent = λ b below. absurd (omega (arith, below));
      heard = λ b below. absurd (omega (arith, below));
    },
  );
}

pub turned_some : (p q r : Shown) (before between after : List BusLog) (n : ℕ) → IsDriven p q before between
    → length q.history < length r.history → HaveTurned p r before after (n + 1) true
turned_some p q r before between after n finish more = record {
  some = λ _. let l = longer p q before between finish in omega (arith, l, more);
  none = λ is. absurd (true≢false is);
}

-- the same of a plant with the same history
pub handout_moved : (p q : Shown) (b : ℕ) → q.history ≡ p.history → q.plant ≡ p.plant → HasNoHandout q b
    → HasNoHandout p b
handout_moved p q b history plant none =
    subst (λ (m : Plant). HasNoHandout (record p { plant = m }) b) plant
    (subst (λ (h : List Event). HasNoHandout (record p { plant = q.plant; history = h }) b) history none)

pub frame_moved : (p q : Shown) (b : ℕ) (first log : BusLog) → q.history ≡ p.history → HasNoFrame q b first log
    → HasNoFrame p b first log
frame_moved p q b first log history none =
    subst (λ (h : List Event). HasNoFrame (record p { history = h }) b first log) history none

pub frame_since : (p : Shown) (b : ℕ) (first second log : BusLog) → HasHeard first second → HasNoFrame p b second log
    → HasNoFrame p b first log
frame_since p b first second log more none =
    ⊎_elim (λ (down : is_down b p.history ≡ true). inl down)
    (λ (quiet : WasSilent second log).
    inr (record { none = quiet.none; asked = asked_since first second log more quiet.asked; all = quiet.all })) none

-- one bus more has nothing to do
pub turned_nothing : (p q r : Shown) (before between after : List BusLog) (n : ℕ) (any : Bool)
    → HaveTurned p q before between n any → IsDriven p q before between → r.history ≡ q.history
    → ((b : ℕ) → b ≢ n → log_of after b ≡ log_of between b) → HasNoHandout q n
    → HasNoFrame q n (log_of between n) (log_of after n) → HaveTurned p r before after (n + 1) any
turned_nothing p q r before between after n any turned finish same others send hear = record {
  some = λ is. let s = turned.some is in let l = ap length same in omega (arith, s, l);
  none = λ is.
      let quiet = turned.none is in (
        same ∙ quiet.0,
        record {
          sent = λ b below.
              below_more (HasNoHandout p) n quiet.1.sent (handout_moved p q n quiet.0 finish.plant send) b below;
          heard = λ b below.
              below_more (λ c. HasNoFrame p c (log_of before c) (log_of after c)) n
              (λ c lt.
              let other : c ≢ n = λ e. absurd (omega (arith, lt, e)) in
              subst (λ (l : BusLog). HasNoFrame p c (log_of before c) l) (sym (others c other)) (quiet.1.heard c lt))
              (frame_moved p q n (log_of before n) (log_of after n) quiet.0
              (frame_since q n (log_of before n) (log_of between n) (log_of after n) (finish.hears n) hear)) b below;
        },
      );
}
