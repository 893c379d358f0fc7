-- A report holds a frame that failed only where its transaction failed.
use Rattle.std.proofs.Common.{◌≡◌, ℕ, zero, suc, ◌-◌, List, [], ◌∷◌, length, sym, ◌∙◌, ap, arith}
use Rattle.std.specs.Prelude.{All}
use Rattle.std.proofs.lemmas.List.Elements.{All-append, All-cons}
use Rattle.daliframe.specs.declared.forward.Frame.{Frame}
use Rattle.buslink.specs.declared.marks.Mark.{Mark}
use Rattle.buslink.specs.declared.marks.Mark.TheVariants.{Lost, Failed}
use Rattle.buslink.specs.declared.marks.Sent.{Sent}
use Rattle.gearcmd.specs.FrameLists.{FrameList}
use Rattle.buslink.specs.Marks.{outcome_of}
use Rattle.buslink.specs.Attempts.{Attempt, IsAttempt, IsReport, ReportParts, Spells, marks_of}
use Rattle.buslink.specs.Attempts.{sent_with, all_sent, last_mark}
use Rattle.buslink.specs.BusLog.{BusLog, one_more}
use Rattle.buslink.specs.Performing.{failures_after, after_report}

-- what holds of each mark holds of the mark of each frame
all_frames : (P : Mark → Type 0) (frames : List Frame) (first : ℕ) (marks : List Mark) → All P marks
    → All (λ (s : Sent). P s.mark) (sent_with frames first marks)
all_frames P [] first marks h = λ k d lt. absurd (omega arith)
all_frames P (f ∷ frames) first [] h = λ k d lt. absurd (omega arith)
all_frames P (f ∷ frames) first (m ∷ marks) h =
    All-cons (λ (s : Sent). P s.mark) (record { frame = f; priority = first; mark = m }) (sent_with frames 1 marks)
    (h 0 m (omega arith)) (all_frames P frames 1 marks (λ k d lt. h (suc k) d (omega arith)))

-- in an attempt only the last mark is Failed
in_attempt : (count : ℕ) (a : Attempt) (Q : Type 0) → IsAttempt count a → (a.last ≡ Failed → Q)
    → All (λ (m : Mark). m ≡ Failed → Q) (marks_of a)
in_attempt count a Q is last =
    All-append (λ (m : Mark). m ≡ Failed → Q) a.before (a.last ∷ [])
    (λ k d lt e. absurd (is.unbroken k d lt (rw e tt)))
    (All-cons (λ (m : Mark). m ≡ Failed → Q) a.last [] last (λ k d lt. absurd (omega arith)))

in_report : (list : FrameList) (retries : ℕ) (attempts : List Attempt) (Q : Type 0)
    → IsReport retries (length list.frames) attempts
    → (last_mark attempts ≡ Failed → Q) → All (λ (s : Sent). s.mark ≡ Failed → Q) (all_sent list attempts)
in_report list retries [] Q h last = absurd h
in_report list retries (a ∷ []) Q h last =
    All-append (λ (s : Sent). s.mark ≡ Failed → Q) (sent_with list.frames list.first_priority (marks_of a)) []
    (all_frames (λ (m : Mark). m ≡ Failed → Q) list.frames list.first_priority (marks_of a)
    (in_attempt (length list.frames) a Q h.0 last))
    (λ k d lt. absurd (omega arith))
in_report list zero (a ∷ b ∷ more) Q h last = absurd h
in_report list (suc retries) (a ∷ b ∷ more) Q h last =
    All-append (λ (s : Sent). s.mark ≡ Failed → Q) (sent_with list.frames list.first_priority (marks_of a))
    (all_sent list (b ∷ more))
    (all_frames (λ (m : Mark). m ≡ Failed → Q) list.frames list.first_priority (marks_of a)
    (in_attempt (length list.frames) a Q h.0 (λ failed. absurd (apart h.1 failed))))
    (in_report list retries (b ∷ more) Q h.2 last)
  where
    apart : a.last ≡ Lost → a.last ≡ Failed → ⊥
    apart lost failed = let e : Lost ≡ Failed = sym lost ∙ failed in cc

pub failed_where_risen : (list : FrameList) (most : ℕ) (marks : List Mark) (r : ReportParts) (old new : BusLog)
    → Spells list most marks r → new ≡ after_report r new.spare old
    → All (λ (s : Sent). s.mark ≡ Failed → new.failures ≡ one_more old.failures) r.attempts
failed_where_risen list most marks r old new s told =
    let risen : last_mark s.attempts ≡ Failed → new.failures ≡ one_more old.failures = λ failed.
    ap (λ (log : BusLog). log.failures) told ∙ ap (λ o. failures_after o old.failures)
    (s.outcome ∙ ap outcome_of failed) in
    rw s.sent (in_report list (most - 1) s.attempts (new.failures ≡ one_more old.failures) s.legal risen)
