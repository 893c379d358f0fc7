-- What asking a bus is: a transaction, what became of it, and what became of the bus.
use Rattle.std.specs.Prelude.{◌≡◌, List, [], ◌∷◌, ◌++◌, All, Result, Ok, Err}
use Rattle.limits.specs.Limits.{usual_tries}
use Rattle.gearcmd.specs.declared.requests.Command.{Command}
use Rattle.gearcmd.specs.declared.requests.TaskKind.TheVariants.{Event}
use Rattle.gearcmd.specs.FrameLists.{FrameList}
use Rattle.gearcmd.specs.Requests.{frames_of, class_of}
use Rattle.buslink.specs.declared.marks.Outcome.TheVariants as outcome
use Rattle.buslink.specs.Attempts.{ReportParts, IsReportParts}
use Rattle.buslink.specs.BusLog.{BusLog, with_spare}
use Rattle.buslink.specs.Performing.{after_report}
use Rattle.commissioning.specs.declared.asking.AskFault.{AskFault}
use Rattle.commissioning.specs.declared.asking.AskFault.TheVariants.{Memory, Failed}
use Rattle.commissioning.specs.declared.asking.Asked.{Asked}

-- what a command is sent as: its frames, with the priority of what a person does
abbrev pub transaction_of : Command → FrameList
transaction_of command = record { frames = frames_of command; first_priority = class_of command Event }

-- these frames were sent on the bus as one transaction, with this report, and nothing else was sent or heard
pub record IsSent (list : FrameList) (report : ReportParts) (old new : BusLog) : Type 0 where
  pub transaction : report.transaction ≡ list
  pub tries : report.tries ≡ usual_tries
  pub legal : IsReportParts report
  pub bus : new ≡ after_report report new.spare old

-- the command was sent on the bus, with this report, and nothing else was sent or heard
abbrev pub IsAsked : Command → ReportParts → BusLog → BusLog → Type 0
IsAsked command = IsSent (transaction_of command)

-- .. and the interface did not fail
pub record IsAnswered (command : Command) (report : ReportParts) (old new : BusLog) : Type 0 where
  pub asked : IsAsked command report old new
  pub whole : ¬ (report.outcome ≡ outcome.Failed)

-- there was no room and nothing was sent, or the command was sent and the interface failed
abbrev pub IsUnanswered : Command → AskFault → BusLog → BusLog → Type 0
IsUnanswered command Memory old new = new ≡ with_spare new.spare old
IsUnanswered command Failed old new =
    (report : ReportParts) × (IsAsked command report old new × (report.outcome ≡ outcome.Failed))

-- the command was asked, and this is how it ended
pub record IsOneAsked (a : Asked) (old new : BusLog) : Type 0 where
  pub report : ReportParts
  pub asked : IsAsked a.command report old new
  pub outcome : a.outcome ≡ report.outcome

-- these were asked, one after another, and nothing else was sent or heard
abbrev pub AreAsked : List Asked → BusLog → BusLog → Type 0
AreAsked [] first last = last ≡ with_spare last.spare first
AreAsked (a ∷ more) first last = (middle : BusLog) × (IsOneAsked a first middle × AreAsked more middle last)

-- the interface failed at none of them
abbrev pub IsWhole : List Asked → Type 0
IsWhole asked = All (λ a. ¬ (a.outcome ≡ outcome.Failed)) asked

-- .. and the interface failed at none of them
pub record AreAnswered (asked : List Asked) (first last : BusLog) : Type 0 where
  pub are : AreAsked asked first last
  pub whole : IsWhole asked

-- the interface failed at the last of them, and at none before
pub record FailsLast (asked : List Asked) : Type 0 where
  pub before : List Asked
  pub command : Command
  pub is : asked ≡ before ++ record { command = command; outcome = outcome.Failed } ∷ []
  pub whole : IsWhole before

-- where asking ended by this fault: behind a command that was answered, or before the first; or at the one that failed
abbrev pub EndsBy : AskFault → List Asked → Type 0
EndsBy Memory asked = IsWhole asked
EndsBy Failed asked = FailsLast asked

-- a beginning of what P says: with this rest it is the whole
pub record Begins (P : List Asked → Type 0) (asked : List Asked) : Type 0 where
  pub rest : List Asked
  pub whole : P (asked ++ rest)

-- a beginning of what P says was asked, up to this fault, and nothing else was sent or heard
pub record IsBrokenOff (P : List Asked → Type 0) (fault : AskFault) (old new : BusLog) : Type 0 where
  pub asked : List Asked
  pub are : AreAsked asked old new
  pub begins : Begins P asked
  pub ends : EndsBy fault asked

-- what asking one command has done that had this result
abbrev pub HasAsked : Command → Result ReportParts AskFault → BusLog → BusLog → Type 0
HasAsked command (Ok report) old new = IsAnswered command report old new
HasAsked command (Err fault) old new = IsUnanswered command fault old new
