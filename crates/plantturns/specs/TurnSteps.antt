-- What the steps of a turn come to, and why a turn ends with an error.
use Rattle.std.specs.Prelude.{◌≡◌, ◌≢◌, ℕ, Some, None, Option, List, Result, Ok, Err, ⊤}
use Rattle.buslink.specs.declared.marks.Outcome.{Outcome}
use Rattle.buslink.specs.declared.marks.Outcome.TheVariants as outcome
use Rattle.buslink.specs.Attempts.{ReportParts}
use Rattle.buslink.specs.BusLog.{BusLog}
use Rattle.plantevents.specs.declared.event.Event.TheVariants.{Down}
use Rattle.plantevents.specs.Parts.{Placed}
use Rattle.plantlock.specs.Refusals.{hand_cases, take_cases}
use Rattle.plantlock.specs.Shown.{Shown}
use Rattle.plantlock.specs.Answers.{IsUnheard}
use Rattle.plantlock.specs.Receipts.{ShareParts, IsNoted}
use Rattle.plantdriving.specs.declared.halt.Halt.{Halt}
use Rattle.plantdriving.specs.declared.halt.Halt.TheVariants.{Refused, Memory, Unwritten}
use Rattle.plantturns.specs.declared.turn.Turn.{Turn}
use Rattle.plantturns.specs.declared.turn.Turn.TheVariants as turns
use Rattle.plantturns.specs.Outcomes.{HasScannedOnce, HasSentOnce, IsRefusedBy, IsUnsent}

-- an observer failed
abbrev pub IsUnwritten : Halt → Type 0
IsUnwritten (Unwritten error) = ⊤
IsUnwritten (Refused refusal) = ⊥
IsUnwritten Memory = ⊥

-- an observer was told of what the turn did, or failed
abbrev pub IsTold : Turn → Result Turn Halt → Type 0
IsTold turn (Ok told) = told ≡ turn
IsTold turn (Err halt) = IsUnwritten halt

-- why a bus was not asked: it is down, as the part shows, the history is full, or it has no memory for a frame; or it
-- was, and an observer failed
abbrev pub IsUnasked : List Placed → Halt → Type 0
IsUnasked part (Refused refusal) = IsUnheard part refusal
IsUnasked part Memory = ⊤
IsUnasked part (Unwritten error) = ⊤

-- ---- a transaction

-- the turn after a transaction, where its bus went down at this place or did not
abbrev pub turn_after : Option ℕ → Turn
turn_after None = turns.Busy
turn_after (Some place) = turns.Down

-- the Share has a receipt that the bus went down, exactly where the transaction failed
pub record IsDownWhereFailed (bus : ℕ) (ended : Outcome) (place : Option ℕ) (s t : ShareParts) : Type 0 where
  pub fine : ended ≢ outcome.Failed → (place ≡ None) × (t ≡ s)
  pub failed : ended ≡ outcome.Failed → (n : ℕ) × (place ≡ Some n) × ((m : ℕ) × IsNoted m (Down bus) s t)

-- it was sent, or not
abbrev pub SendsOnce : Shown → ℕ → ShareParts → ShareParts → BusLog → BusLog → Result Turn Halt → Type 0
SendsOnce start bus s t log after (Ok turns.Busy) =
    (report : ReportParts) × HasSentOnce bus s t log after report × (report.outcome ≢ outcome.Failed)
SendsOnce start bus s t log after (Ok turns.Idle) = ⊥
SendsOnce start bus s t log after (Ok turns.Down) =
    (report : ReportParts) × HasSentOnce bus s t log after report × (report.outcome ≡ outcome.Failed)
SendsOnce start bus s t log after (Err (Unwritten error)) =
    (report : ReportParts) × HasSentOnce bus s t log after report
SendsOnce start bus s t log after (Err Memory) = IsUnsent s t log after
SendsOnce start bus s t log after (Err (Refused refusal)) =
    IsRefusedBy start s (λ p. hand_cases p bus) refusal × IsUnsent s t log after

-- ---- a scan

-- it was made, or not
abbrev pub ScansOnce : {A : Type 0} → Shown → ℕ → ShareParts → ShareParts → Result A Halt → Type 0
ScansOnce start worker s t (Ok done) = HasScannedOnce worker s t
ScansOnce start worker s t (Err (Unwritten error)) = HasScannedOnce worker s t
ScansOnce start worker s t (Err Memory) = t ≡ s
ScansOnce start worker s t (Err (Refused refusal)) =
    IsRefusedBy start s (λ p. take_cases p worker) refusal × (t ≡ s)
