-- What probing asks: a survey, and then all gear whether it has no short address.
use Rattle.std.specs.Prelude.{◌⊎◌, List, Result, Ok, Err}
use Rattle.buslink.specs.BusLog.{BusLog}
use Rattle.commissioning.specs.declared.asking.AskFault.{AskFault}
use Rattle.commissioning.specs.declared.asking.Asked.{Asked}
use Rattle.commissioning.specs.declared.probing.Probed.{Probed}
use Rattle.commissioning.specs.Asking.{AreAnswered, IsBrokenOff}
use Rattle.commissioning.specs.Surveys.{IsSurvey}
use Rattle.commissioning.specs.Unaddressed.{IsMissingAnswered, IsMissingUnanswered}

-- a whole survey was asked and answered
pub record IsSurveyed (survey : List Asked) (old new : BusLog) : Type 0 where
  pub is : IsSurvey survey
  pub answered : AreAnswered survey old new

-- .. and then the query to all
pub record IsProbed (probed : Probed) (old new : BusLog) : Type 0 where
  pub middle : BusLog
  pub surveyed : IsSurveyed probed.survey old middle
  pub unaddressed : IsMissingAnswered probed.unaddressed middle new

-- .. but the query to all was not answered
pub record IsCutBehindSurvey (fault : AskFault) (old new : BusLog) : Type 0 where
  pub survey : List Asked
  pub middle : BusLog
  pub surveyed : IsSurveyed survey old middle
  pub unanswered : IsMissingUnanswered fault middle new

-- a beginning of it was asked, up to this fault
abbrev pub IsProbedInPart : AskFault → BusLog → BusLog → Type 0
IsProbedInPart fault old new = IsBrokenOff IsSurvey fault old new ⊎ IsCutBehindSurvey fault old new

-- what probing has done that had this result
abbrev pub HasProbed : Result Probed AskFault → BusLog → BusLog → Type 0
HasProbed (Ok probed) old new = IsProbed probed old new
HasProbed (Err fault) old new = IsProbedInPart fault old new
