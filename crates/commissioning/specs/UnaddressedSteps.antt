-- What trying the query to all does to a bus: one attempt after another.
use Rattle.std.specs.Prelude.{◌≡◌, ℕ, List, ◌++◌, Result, Ok, Err}
use Rattle.buslink.specs.declared.marks.Mark.{Mark}
use Rattle.buslink.specs.declared.marks.Outcome.{Outcome}
use Rattle.buslink.specs.declared.marks.Outcome.TheVariants as ended
use Rattle.buslink.specs.Marks.{outcome_of}
use Rattle.buslink.specs.Attempts.{Attempt, IsReport, all_sent, last_mark}
use Rattle.buslink.specs.BusLog.{BusLog}
use Rattle.buslink.specs.PerformingSteps.{failures_with}
use Rattle.commissioning.specs.declared.asking.AskFault.{AskFault}
use Rattle.commissioning.specs.declared.asking.AskFault.TheVariants.{Failed}
use Rattle.commissioning.specs.Unaddressed.{missing_query}

-- the bus after these attempts, with so many spare places
abbrev pub after_attempts : List Attempt → ℕ → BusLog → BusLog
after_attempts attempts spare log = record log {
  sent = log.sent ++ all_sent missing_query attempts;
  spare = spare;
  failures = failures_with (last_mark attempts) log.failures;
}

-- the query was tried, and again after each loss while retries were left; the last mark is this one
pub record IsTriedAlone (retries : ℕ) (last : Mark) (old new : BusLog) : Type 0 where
  pub attempts : List Attempt
  pub legal : IsReport retries 1 attempts
  pub ends : last ≡ last_mark attempts
  pub bus : new ≡ after_attempts attempts new.spare old

-- the outcome by the last mark, or the fault where the interface failed
abbrev pub EndsAs : Mark → Result Outcome AskFault → Type 0
EndsAs last (Ok outcome) = (outcome ≡ outcome_of last) × ¬ (outcome ≡ ended.Failed)
EndsAs last (Err fault) = (fault ≡ Failed) × (outcome_of last ≡ ended.Failed)
