-- What performing a transaction does to a bus.
use Rattle.std.specs.Prelude.{ℕ, ◌++◌}
use Rattle.buslink.specs.declared.marks.Outcome.{Outcome}
use Rattle.buslink.specs.declared.marks.Outcome.TheVariants as outcome
use Rattle.buslink.specs.Attempts.{ReportParts}
use Rattle.buslink.specs.BusLog.{BusLog, one_more}

-- the failures after a transaction: only one that failed met a fault, and one fault ends it
abbrev pub failures_after : Outcome → ℕ → ℕ
failures_after (outcome.Done reply) failures = failures
failures_after outcome.GaveUp failures = failures
failures_after outcome.Failed failures = one_more failures

-- the bus after a transaction with this report, with so many spare places: its frames were sent, and nothing was heard
abbrev pub after_report : ReportParts → ℕ → BusLog → BusLog
after_report report spare log = record log {
  sent = log.sent ++ report.attempts;
  spare = spare;
  failures = failures_after report.outcome log.failures;
}
