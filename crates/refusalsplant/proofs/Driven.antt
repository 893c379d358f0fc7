-- What the turn of a bus leaves, and what is so once nothing is left to do.
use Rattle.std.proofs.Common.{◌≡◌, ◌≢◌, ◌⊎◌, ⊎_elim, ℕ, ◌<◌, Bool, true, false, List, [], ◌∷◌, ◌++◌, length, Some, None, Result, Ok, Err}
use Rattle.std.proofs.Common.{OnOk, refl, ap, sym, ◌∙◌, arith, slice_get}
use Rattle.std.specs.Prelude.{is_some, nat_lt, not}
use Rattle.buslink.specs.BusLog.{BusLog, one_more}
use Rattle.buslink.specs.Performing.{failures_after}
use Rattle.buslink.specs.declared.marks.Outcome.{Outcome}
use Rattle.buslink.specs.declared.marks.Outcome.TheVariants.{Done, GaveUp, Failed}
use Rattle.plantevents.specs.declared.event.Event.{Event}
use Rattle.plantevents.specs.Histories.{heard_in, heards, is_down, scan, sent_in}
use Rattle.plant.specs.declared.refusal.CallRefusal.{CallRefusal}
use Rattle.plant.specs.declared.refusal.CallRefusal.TheVariants.{Stranger, Busy, BusDown, NothingReady, Full}
use Rattle.plant.specs.declared.refusal.CallError.{CallError}
use Rattle.plant.specs.Refusals.{Case, GivesFirstOrMemory, first_refusal, hand_cases, none_free, take_cases}
use Rattle.plant.specs.Shown.{Shown, is_full}
use Rattle.plantdriving.specs.declared.halt.Halt.{Halt}
use Rattle.plantdriving.specs.declared.halt.Halt.TheVariants as halts
use Rattle.plantdriving.specs.Downs.{has_down}
use Rattle.plantdriving.specs.Driven.{HasSent, SendsNext}
use Rattle.plantdriving.specs.Links.{AreLinked, log_of}
use Rattle.plantdriving.specs.Quiet.{HasNoFrame}

-- ---- the turn of a bus

by_outcome : {X : Type 0} (outcome : Outcome) → (outcome ≢ Failed → X) → (outcome ≡ Failed → X) → X
by_outcome (Done reply) other failed = other (λ e. cc)
by_outcome GaveUp other failed = other (λ e. cc)
by_outcome Failed other failed = failed refl

pub sent_plant : (p : Shown) (log : BusLog) (q : Shown) (after : BusLog) → HasSent p 0 log q after → q.plant ≡ p.plant
sent_plant p log q after has =
    by_outcome has.report.outcome (λ fine. ap (λ (s : Shown). s.plant) (has.fine fine))
    (λ failed. ap (λ (s : Shown). s.plant) (has.failed failed))

-- a bus that is down once it sent had failed
pub down_where_failed : (p : Shown) (log : BusLog) (q : Shown) (after : BusLog) → HasSent p 0 log q after
    → is_down 0 q.history ≡ true → after.failures ≡ one_more log.failures
down_where_failed p log q after has down =
    by_outcome has.report.outcome
    (λ fine.
    let up = has.next.up.up in
    let same : is_down 0 q.history ≡ is_down 0 p.history = ap (λ (s : Shown). is_down 0 s.history) (has.fine fine) in
    absurd (cc))
    (λ failed.
    ap (λ (l : BusLog). l.failures) has.line
    ∙ ap (λ (o : Outcome). failures_after o log.failures) failed)

sent_alike : (p : Shown) (log : BusLog) (q : Shown) (after : BusLog) → HasSent p 0 log q after
    → log.sent ≡ sent_in 0 p.history → after.sent ≡ sent_in 0 q.history
sent_alike p log q after has linked =
    let line : after.sent ≡ sent_in 0 p.history ++ has.report.attempts =
    ap (λ (l : BusLog). l.sent) has.line ∙ ap (λ sent. sent ++ has.report.attempts) linked in
    by_outcome has.report.outcome (λ fine. line ∙ sym (ap (λ (s : Shown). sent_in 0 s.history) (has.fine fine)))
    (λ failed. line ∙ sym (ap (λ (s : Shown). sent_in 0 s.history) (has.failed failed)))

pub sent_as_reported : {A : Type 0} (p : Shown) (log : BusLog) (q : Shown) (after : BusLog) (given : Result A Halt)
    → SendsNext p 0 log q after given → log.sent ≡ sent_in 0 p.history → OnOk given (after.sent ≡ sent_in 0 q.history)
sent_as_reported p log q after (Ok done) sends linked = sent_alike p log q after sends linked
sent_as_reported p log q after (Err halt) sends linked = tt

pub only_down : {A : Type 0} (p : Shown) (log : BusLog) (q : Shown) (after : BusLog) (given : Result A Halt)
    → SendsNext p 0 log q after given → first_refusal (hand_cases p 0) ≡ Some BusDown
    → given ≡ Err (halts.Refused BusDown)
only_down p log q after (Ok done) sends down = absurd (let accepted = sends.accepted in cc)
only_down p log q after (Err (halts.Unwritten error)) sends down = absurd (let accepted = sends.accepted in cc)
only_down p log q after (Err halts.Memory) sends down = absurd (let accepted = sends.0 in cc)
only_down p log q after (Err (halts.Refused refusal)) sends down =
    let is = sends.0 in
    let same : refusal ≡ BusDown = cc in ap (λ (r : CallRefusal). Err (halts.Refused r)) same

-- the only bus is down
pub seen : (buses : ℕ) (h : List Event) → buses ≡ 1 → is_down 0 h ≡ true → has_down buses h ≡ true
seen buses h one down = rw (one, down) refl

-- ---- nothing is left to do

third_holds : (stranger busy full : Bool)
    → ¬ (first_refusal ((stranger, Stranger) ∷ (busy, Busy) ∷ (true, NothingReady) ∷ (full, Full) ∷ []) ≡ None)
third_holds true busy full is = cc
third_holds false true full is = cc
third_holds false false full is = cc

pub none_taken : (p : Shown) → none_free p.plant p.history (length p.plant.plan.tasks) ≡ true
    → ¬ (first_refusal (take_cases p 0) ≡ None)
none_taken p none is =
    third_holds (not (nat_lt 0 p.plant.workers)) (is_some (scan 0 p.history)) (is_full p)
    (ap (λ (ready : Bool). first_refusal ((not (nat_lt 0 p.plant.workers), Stranger)
    ∷ (is_some (scan 0 p.history), Busy) ∷ (ready, NothingReady) ∷ (is_full p, Full) ∷ [])) (sym none)
    ∙ is)

-- so none is
pub not_given : {A : Type 0} (cases : List Case) (given : Result A CallError) → GivesFirstOrMemory cases given
    → ¬ (first_refusal cases ≡ None) → OnOk given ⊥
not_given cases (Ok order) gives refused = refused gives
not_given cases (Err error) gives refused = tt

pub silent_if_up : (p : Shown) (first log : BusLog) → HasNoFrame p 0 first log → is_down 0 p.history ≡ false
    → log.heard_none ≡ true
silent_if_up p first log none up =
    ⊎_elim (λ (down : is_down 0 p.history ≡ true). absurd (cc)) (λ silent. silent.none) none

pub first_there : (logs : List BusLog) → 0 < length logs → slice_get logs 0 ≡ Some (log_of logs 0)
first_there [] there = absurd (omega (arith, there))
first_there (log ∷ logs) there = refl

-- the frames that bus 0 heard are those of the history
pub heard_as_noted : (firsts : List BusLog) (h : List Event) (logs : List BusLog) → AreLinked firsts h logs
    → 0 < length logs → (log_of firsts 0).heard ≡ [] → (log_of logs 0).heard ≡ heard_in 0 h
heard_as_noted firsts h logs linked there none =
    (linked 0 (log_of logs 0) (first_there logs there)).heard ∙ ap (λ heard. heard ++ heard_in 0 h) none
