-- What the steps of performing a transaction do to a bus: a frame, an attempt, all attempts.
use Rattle.std.specs.Prelude.{◌≡◌, ℕ, ◌-◌, Result, List, ◌++◌, length}
use Rattle.daliframe.specs.declared.forward.Frame.{Frame}
use Rattle.gearcmd.specs.FrameLists.{FrameList}
use Rattle.buslink.specs.declared.marks.Mark.{Mark}
use Rattle.buslink.specs.declared.marks.Mark.TheVariants as mark
use Rattle.buslink.specs.declared.marks.Reply.{Reply}
use Rattle.buslink.specs.declared.marks.Sent.{Sent}
use Rattle.buslink.specs.Attempts.{Attempt, IsAttempt, IsReport, marks_of, all_marks, sent_with, all_sent, last_mark}
use Rattle.buslink.specs.declared.faults.Fault.{Fault}
use Rattle.buslink.specs.BusLog.{BusLog, one_more, mark_of_send, after_send}

-- the failures after frames of which the last has this mark, and no other failed
abbrev pub failures_with : Mark → ℕ → ℕ
failures_with mark.Quiet failures = failures
failures_with (mark.Answer byte) failures = failures
failures_with mark.Damaged failures = failures
failures_with mark.Lost failures = failures
failures_with mark.Failed failures = one_more failures

-- the bus after these frames were sent, of which the last has this mark and no other failed
abbrev pub after_frames : List Sent → Mark → BusLog → BusLog
after_frames frames last log = record log {
  sent = log.sent ++ frames;
  spare = log.spare - length frames;
  failures = failures_with last log.failures;
}

-- the frame was sent, and this is what became of it
pub record IsSent (frame : Frame) (priority : ℕ) (mark : Mark) (old new : BusLog) : Type 0 where
  pub reply : Result Reply Fault
  pub marked : mark ≡ mark_of_send reply
  pub bus : new ≡ after_send frame priority reply old

-- these frames were tried once: what became of them, up to the last mark, goes behind the marks from before
pub record IsTriedOnce (frames : List Frame) (first : ℕ) (before after : List Mark) (old new : BusLog) (last : Mark)
    : Type 0 where
  pub attempt : Attempt
  pub legal : IsAttempt (length frames) attempt
  pub ends : last ≡ attempt.last
  pub marks : after ≡ before ++ marks_of attempt
  pub bus : new ≡ after_frames (sent_with frames first (marks_of attempt)) attempt.last old

-- the transaction was tried, and tried again after each loss while retries were left: the marks go behind those from
-- before
pub record IsTried (list : FrameList) (retries : ℕ) (before after : List Mark) (old new : BusLog) : Type 0 where
  pub attempts : List Attempt
  pub legal : IsReport retries (length list.frames) attempts
  pub marks : after ≡ before ++ all_marks attempts
  pub bus : new ≡ after_frames (all_sent list attempts) (last_mark attempts) old
