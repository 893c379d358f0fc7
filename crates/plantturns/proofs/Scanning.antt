-- What the Share of a scan worker has receipts for after a scan, and a turn that the plant refused.
use Rattle.std.proofs.Common.{◌≡◌, ◌≢◌, ℕ, Bool, true, false, ◌∷◌, [], List, Some, Err, sym, ap, ◌∙◌, subst}
use Rattle.std.proofs.lemmas.Result.{err_from_is_err_and}
use Rattle.std.specs.Prelude.{Result, IsErrAnd, ⊤}
use Rattle.ilmachine.specs.Snapshots.{ScanStart}
use Rattle.ilmachine.specs.Scans.{Scan}
use Rattle.plantevents.specs.declared.event.Event.TheVariants.{Take, Commit}
use Rattle.plantevents.specs.Parts.{Placed, placed}
use Rattle.plantlock.specs.Order.{Order}
use Rattle.plantlock.specs.CallError.{CallError}
use Rattle.plantlock.specs.CallError.TheVariants as errors
use Rattle.plantlock.specs.CallRefusal.TheVariants as refusal
use Rattle.plantlock.specs.Refusals.{GivesFirstOrMemory, first_refusal, take_cases}
use Rattle.plantlock.specs.Shown.{Shown}
use Rattle.plantlock.specs.Answers.{Answer}
use Rattle.plantdriving.specs.Halts.{IsHaltOf}
use Rattle.plantdriving.specs.declared.halt.Halt.{Halt}
use Rattle.plantdriving.specs.declared.halt.Halt.TheVariants.{Refused, Memory, Unwritten}
use Rattle.plantlock.specs.Receipts.{ShareParts, IsNoted, whole}
use Rattle.plantturns.specs.Outcomes.{HasScannedOnce, ScansTurn, turn_where_refused}
use Rattle.plantturns.specs.TurnSteps.{ScansOnce}
use Rattle.plantturns.proofs.Rounds.{noted_whole}

pub has_scanned : (worker number task place : ℕ) (snapshot : ScanStart) (scan : Scan) (s taken t : ShareParts)
    → IsNoted number (Take worker task snapshot) s taken → IsNoted place (Commit worker scan.number scan) taken t
    → scan.number ≡ number → HasScannedOnce worker s t
has_scanned worker number task place snapshot scan s taken t one two same = record {
  number = number;
  task = task;
  snapshot = snapshot;
  place = place;
  scan = scan;
  receipts =
      noted_whole place (Commit worker scan.number scan) taken t two
      ∙ ap (λ (older : List Placed). placed place (Commit worker scan.number scan) ∷ older)
      (noted_whole number (Take worker task snapshot) s taken one)
      ∙ ap (λ n. placed place (Commit worker n scan) ∷ placed number (Take worker task snapshot) ∷ whole s) same;
}

-- no scan worker is refused since a bus is down
never_down : (nobody busy none full : Bool)
    → first_refusal ((nobody, refusal.Stranger) ∷ (busy, refusal.Busy) ∷ (none, refusal.NothingReady)
    ∷ (full, refusal.Full) ∷ []) ≢ Some refusal.BusDown
never_down true busy none full is = cc
never_down false true none full is = cc
never_down false false true full is = cc
never_down false false false true is = cc
never_down false false false false is = cc

-- why no task was taken
pub order_refused : {A : Type 0} (start : Shown) (worker : ℕ) (s t : ShareParts) (becomes : Order → Shown → Shown)
    (error : CallError) (result : Result A Halt) → IsErrAnd result (λ halt. IsHaltOf error halt)
    → Answer start s t (λ p. GivesFirstOrMemory (take_cases p worker)) becomes (Err error) → t ≡ s
    → ScansOnce start worker s t result
order_refused start worker s t becomes errors.Memory result is answered same =
    let e = err_from_is_err_and result is in
    subst (λ (r : Result _ Halt). ScansOnce start worker s t r) (sym (e.1 ∙ ap Err e.2)) same
order_refused start worker s t becomes (errors.Refused r) result is answered same =
    let e = err_from_is_err_and result is in
    subst (λ (r : Result _ Halt). ScansOnce start worker s t r) (sym (e.1 ∙ ap Err e.2)) (
      record { found = answered.found; under = answered.before; is = answered.wanted },
      same,
    )

pub turn_refused : (start : Shown) (worker : ℕ) (s t : ShareParts) (halt : Halt)
    → ScansOnce {A = ⊤} start worker s t (Err halt) → ScansTurn start worker s t (turn_where_refused halt)
turn_refused start worker s t (Unwritten error) done = done
turn_refused start worker s t Memory done = done
turn_refused start worker s t (Refused refusal.NothingReady) done = done
turn_refused start worker s t (Refused refusal.BusDown) done = never_down _ _ _ _ done.0.is
turn_refused start worker s t (Refused refusal.ClockBack) done = (done.0, (λ e. absurd (cc)), done.1)
turn_refused start worker s t (Refused refusal.Stranger) done = (done.0, (λ e. absurd (cc)), done.1)
turn_refused start worker s t (Refused refusal.Busy) done = (done.0, (λ e. absurd (cc)), done.1)
turn_refused start worker s t (Refused refusal.Full) done = (done.0, (λ e. absurd (cc)), done.1)
