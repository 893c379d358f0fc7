-- What turns come to, by their answers.
use Rattle.std.specs.Prelude.{◌≡◌, ◌≢◌, ◌⊎◌, ℕ, Bool, true, false, Some, List, ◌∷◌, Result, Ok, Err}
use Rattle.buslink.specs.declared.marks.Outcome.TheVariants as outcome
use Rattle.buslink.specs.Attempts.{ReportParts}
use Rattle.buslink.specs.BusLog.{BusLog, after_mend, after_resume, with_spare}
use Rattle.buslink.specs.Performing.{after_report}
use Rattle.ilmachine.specs.Snapshots.{ScanStart}
use Rattle.ilmachine.specs.Scans.{Scan}
use Rattle.plantevents.specs.declared.event.Event.TheVariants.{Take, Commit, Hand, Done, Down, Up}
use Rattle.plantevents.specs.declared.event.Origin.{Origin}
use Rattle.plantevents.specs.Parts.{placed, shown_down}
use Rattle.plantlock.specs.CallRefusal.{CallRefusal}
use Rattle.plantlock.specs.CallRefusal.TheVariants.{BusDown, NothingReady, Full}
use Rattle.plantlock.specs.Refusals.{Case, first_refusal, hand_cases, take_cases}
use Rattle.plantlock.specs.Shown.{Shown}
use Rattle.plantlock.specs.Answers.{IsUnderLock}
use Rattle.plantlock.specs.Receipts.{ShareParts, IsNoted, whole}
use Rattle.plantdriving.specs.declared.halt.Halt.{Halt}
use Rattle.plantdriving.specs.declared.halt.Halt.TheVariants.{Refused, Memory, Unwritten}
use Rattle.plantturns.specs.declared.turn.Turn.{Turn}
use Rattle.plantturns.specs.declared.turn.Turn.TheVariants as turns

-- ---- where the plant refuses

-- where nothing is ready the turn is idle, and where the bus is down it says so; else the worker cannot go on
abbrev pub turn_where_refused : Halt → Result Turn Halt
turn_where_refused (Refused NothingReady) = Ok turns.Idle
turn_where_refused (Refused BusDown) = Ok turns.Down
turn_where_refused halt = Err halt

-- a plant that lay under the lock, as whoever has this Share knows, refused the call of these cases for this reason
pub record IsRefusedBy (start : Shown) (s : ShareParts) (cases : Shown → List Case) (refusal : CallRefusal) : Type 0
  where
    pub found : Shown
    pub under : IsUnderLock start s found
    pub is : first_refusal (cases found) ≡ Some refusal

-- ---- a transaction

-- A transaction was handed to the bus, which was up, sent and reported, and the Share has a receipt for each; where the interface
-- failed the bus went down, and the Share has a receipt for that too. The bus sent the attempts of the report, and
-- nothing else became of it.
pub record HasSentOnce (bus : ℕ) (s t : ShareParts) (log after : BusLog) (report : ReportParts) : Type 0 where
  pub up : shown_down (whole s) ≡ false
  pub number : ℕ
  pub origin : Origin
  pub place : ℕ
  pub fine : report.outcome ≢ outcome.Failed
      → whole t ≡ placed place (Done bus number report) ∷ placed number (Hand bus origin report.transaction) ∷ whole s
  pub failed : report.outcome ≡ outcome.Failed → (down : ℕ) × (whole t ≡ placed down (Down bus)
      ∷ placed place (Done bus number report) ∷ placed number (Hand bus origin report.transaction) ∷ whole s)
  pub line : after ≡ after_report report after.spare log

-- nothing was sent: the Share is as it was, and so is the bus but for its spare places
pub record IsUnsent (s t : ShareParts) (log after : BusLog) : Type 0 where
  pub share : t ≡ s
  pub line : after ≡ with_spare after.spare log

-- A transaction was sent, and the bus did not fail; or the plant had nothing to send on it; or the bus is down, by the
-- plant or since it failed; or the worker cannot go on.
abbrev pub SendsTurn : Shown → ℕ → ShareParts → ShareParts → BusLog → BusLog → Result Turn Halt → Type 0
SendsTurn start bus s t log after (Ok turns.Busy) =
    (report : ReportParts) × HasSentOnce bus s t log after report × (report.outcome ≢ outcome.Failed)
SendsTurn start bus s t log after (Ok turns.Idle) =
    IsRefusedBy start s (λ p. hand_cases p bus) NothingReady × IsUnsent s t log after
SendsTurn start bus s t log after (Ok turns.Down) =
    (IsRefusedBy start s (λ p. hand_cases p bus) BusDown × IsUnsent s t log after)
    ⊎ ((report : ReportParts) × HasSentOnce bus s t log after report × (report.outcome ≡ outcome.Failed))
SendsTurn start bus s t log after (Err (Unwritten error)) =
    (report : ReportParts) × HasSentOnce bus s t log after report
SendsTurn start bus s t log after (Err Memory) = IsUnsent s t log after
SendsTurn start bus s t log after (Err (Refused refusal)) =
    IsRefusedBy start s (λ p. hand_cases p bus) refusal × (refusal ≢ NothingReady) × (refusal ≢ BusDown)
    × IsUnsent s t log after

-- ---- a scan

-- a task was taken, and its scan was made and committed: the Share has a receipt for each
pub record HasScannedOnce (worker : ℕ) (s t : ShareParts) : Type 0 where
  pub number : ℕ
  pub task : ℕ
  pub snapshot : ScanStart
  pub place : ℕ
  pub scan : Scan
  pub receipts : whole t ≡ placed place (Commit worker number scan) ∷ placed number (Take worker task snapshot) ∷ whole s

-- A scan was made; or the plant had no task ready; or the worker cannot go on.
abbrev pub ScansTurn : Shown → ℕ → ShareParts → ShareParts → Result Turn Halt → Type 0
ScansTurn start worker s t (Ok turns.Busy) = HasScannedOnce worker s t
ScansTurn start worker s t (Ok turns.Idle) =
    IsRefusedBy start s (λ p. take_cases p worker) NothingReady × (t ≡ s)
ScansTurn start worker s t (Ok turns.Down) = ⊥
ScansTurn start worker s t (Err (Unwritten error)) = HasScannedOnce worker s t
ScansTurn start worker s t (Err Memory) = t ≡ s
ScansTurn start worker s t (Err (Refused refusal)) =
    IsRefusedBy start s (λ p. take_cases p worker) refusal × (refusal ≢ NothingReady) × (t ≡ s)

-- ---- a bus that is asked to come up

-- its interface said that it answers, the Share has a receipt more, that the bus is up, and the bus was taken up
pub record IsUpAgain (bus : ℕ) (s t : ShareParts) (log after : BusLog) : Type 0 where
  pub place : ℕ
  pub noted : IsNoted place (Up bus) s t
  pub line : after ≡ after_resume (after_mend true log)

-- its interface said whether it answers, and nothing else was done
pub record IsAskedAlone (answers : Bool) (s t : ShareParts) (log after : BusLog) : Type 0 where
  pub share : t ≡ s
  pub line : after ≡ after_mend answers log

-- It is up; or its interface does not answer; or it was not down; or the history has no place for it.
abbrev pub ComesUp : ℕ → ShareParts → ShareParts → BusLog → BusLog → Result Turn Halt → Type 0
ComesUp bus s t log after (Ok turns.Busy) = IsUpAgain bus s t log after
ComesUp bus s t log after (Ok turns.Down) = IsAskedAlone false s t log after
ComesUp bus s t log after (Ok turns.Idle) = (shown_down (whole s) ≡ false) × IsAskedAlone true s t log after
ComesUp bus s t log after (Err (Unwritten error)) = IsUpAgain bus s t log after
ComesUp bus s t log after (Err (Refused refusal)) = (refusal ≡ Full) × IsAskedAlone true s t log after
ComesUp bus s t log after (Err Memory) = ⊥
