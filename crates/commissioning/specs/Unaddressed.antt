-- What asking is whether there is gear without a short address: one query to all control gear.
use Rattle.std.specs.Prelude.{◌≡◌, [], ◌∷◌}
use Rattle.daliframe.specs.declared.forward.Frame.{Frame}
use Rattle.daliframe.specs.declared.forward.Frame.TheVariants.{Forward16}
use Rattle.daliframe.specs.declared.addressing.Address.TheVariants.{Broadcast}
use Rattle.daliframe.specs.Frames.{command_frame}
use Rattle.gearcmd.specs.FrameLists.{FrameList}
use Rattle.buslink.specs.declared.marks.Outcome.{Outcome}
use Rattle.buslink.specs.declared.marks.Outcome.TheVariants as ended
use Rattle.buslink.specs.Attempts.{ReportParts}
use Rattle.buslink.specs.BusLog.{BusLog, with_spare}
use Rattle.commissioning.specs.declared.asking.AskFault.{AskFault}
use Rattle.commissioning.specs.declared.asking.AskFault.TheVariants.{Memory, Failed}
use Rattle.commissioning.specs.Asking.{IsSent}

-- QUERY MISSING SHORT ADDRESS to all (IEC 62386-102, clause 11)
abbrev pub missing_frame : Frame
missing_frame = Forward16 (command_frame Broadcast 0x96)

-- .. alone, with the priority of a query
abbrev pub missing_query : FrameList
missing_query = record { frames = missing_frame ∷ []; first_priority = 5 }

-- it was sent, and this is how it ended
pub record IsMissingAsked (outcome : Outcome) (old new : BusLog) : Type 0 where
  pub report : ReportParts
  pub sent : IsSent missing_query report old new
  pub ends : outcome ≡ report.outcome

-- .. and the interface did not fail
pub record IsMissingAnswered (outcome : Outcome) (old new : BusLog) : Type 0 where
  pub asked : IsMissingAsked outcome old new
  pub whole : ¬ (outcome ≡ ended.Failed)

-- there was no room and nothing was sent, or it was sent and the interface failed
abbrev pub IsMissingUnanswered : AskFault → BusLog → BusLog → Type 0
IsMissingUnanswered Memory old new = new ≡ with_spare new.spare old
IsMissingUnanswered Failed old new = IsMissingAsked ended.Failed old new
