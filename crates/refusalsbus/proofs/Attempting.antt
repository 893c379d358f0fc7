-- How many frames the attempts at a transaction send.
use Rattle.std.proofs.Common.{◌≡◌, ◌∙◌, ℕ, zero, suc, ◌+◌, ◌-◌, ◌<◌, ◌≤◌, List, [], ◌∷◌, ◌++◌, length, refl, ap, subst, sym}
use Rattle.std.proofs.Common.{arith, length-append}
use Rattle.daliframe.specs.declared.forward.Frame.{Frame}
use Rattle.gearcmd.specs.FrameLists.{FrameList}
use Rattle.buslink.specs.declared.marks.Mark.{Mark}
use Rattle.buslink.specs.declared.marks.Mark.TheVariants.{Quiet, Answer, Damaged, Lost, Failed}
use Rattle.buslink.specs.declared.marks.Reply.{Reply}
use Rattle.buslink.specs.declared.marks.Outcome.TheVariants.{Done, GaveUp}
use Rattle.buslink.specs.Attempts.{Attempt, IsAttempt, IsReport, IsReportParts, ReportParts, all_sent, last_mark}
use Rattle.buslink.specs.Attempts.{marks_of, sent_with}
use Rattle.buslink.specs.Marks.{IsBroken, outcome_of}

is_lost : (mark : Mark) → outcome_of mark ≡ GaveUp → mark ≡ Lost
is_lost Quiet up = absurd cc
is_lost (Answer byte) up = absurd cc
is_lost Damaged up = absurd cc
is_lost Lost up = refl
is_lost Failed up = absurd cc

is_whole : (mark : Mark) (reply : Reply) → outcome_of mark ≡ Done reply → ¬ IsBroken mark
is_whole Quiet reply done = λ broken. broken
is_whole (Answer byte) reply done = λ broken. broken
is_whole Damaged reply done = λ broken. broken
is_whole Lost reply done = λ broken. absurd cc
is_whole Failed reply done = λ broken. absurd cc

some_sent : (frames : List Frame) (first : ℕ) (before : List Mark) (final : Mark) → 0 < length frames
    → 0 < length (sent_with frames first (before ++ final ∷ []))
some_sent [] first before final some = omega arith
some_sent (f ∷ frames) first [] final some = omega arith
some_sent (f ∷ frames) first (m ∷ before) final some = omega arith

attempt_sends : (list : FrameList) (a : Attempt) → IsAttempt (length list.frames) a
    → 0 < length (sent_with list.frames list.first_priority (marks_of a))
attempt_sends list a legal =
    let within = legal.within in some_sent list.frames list.first_priority a.before a.last (omega arith)

-- a transaction that gave up on a bus of two attempts sent two frames
two_sent : (list : FrameList) (attempts : List Attempt) → IsReport 1 (length list.frames) attempts
    → outcome_of (last_mark attempts) ≡ GaveUp → 1 < length (all_sent list attempts)
two_sent list [] legal up = absurd legal
two_sent list (a ∷ []) legal up = let none = legal.1 (is_lost a.last up) in omega arith
two_sent list (a ∷ b ∷ []) legal up =
    let first = sent_with list.frames list.first_priority (marks_of a) in
    let again = sent_with list.frames list.first_priority (marks_of b) in
    let one = attempt_sends list a legal.0 in
    let other = attempt_sends list b legal.2.0 in
    omega (arith, length-append first (again ++ []), length-append again [])
two_sent list (a ∷ b ∷ c ∷ more) legal up = absurd legal.2

pub given_up_late : (report : ReportParts) → IsReportParts report → report.tries ≡ 2 → report.outcome ≡ GaveUp
    → 1 < length report.attempts
given_up_late report parts tries up =
    let spelled = parts.spelled in
    let attempts = spelled.attempts in
    let legal = subst (λ (n : ℕ). IsReport n (length report.transaction.frames) attempts) (ap (λ (n : ℕ). n - 1) tries) spelled.legal in
    let sent = two_sent report.transaction attempts legal (sym spelled.outcome ∙ up) in
    omega (arith, ap length spelled.sent)

all_of : (frames : List Frame) (first : ℕ) (marks : List Mark) → length marks ≡ length frames
    → length (sent_with frames first marks) ≡ length frames
all_of [] first marks same = refl
all_of (f ∷ frames) first [] same = absurd cc
all_of (f ∷ frames) first (m ∷ marks) same = let more = all_of frames 1 marks (omega arith) in omega arith

-- an attempt that is not broken off sends all frames
whole_attempt : (list : FrameList) (a : Attempt) → IsAttempt (length list.frames) a → ¬ IsBroken a.last
    → length (sent_with list.frames list.first_priority (marks_of a)) ≡ length list.frames
whole_attempt list a legal whole =
    let within = legal.within in
    let cut : ¬ (length a.before + 1 < length list.frames) = λ short. whole (legal.cut short) in
    all_of list.frames list.first_priority (marks_of a) (omega (arith, length-append a.before (a.last ∷ [])))

whole_sent : (retries : ℕ) (list : FrameList) (attempts : List Attempt)
    → IsReport retries (length list.frames) attempts → ¬ IsBroken (last_mark attempts)
    → length list.frames ≤ length (all_sent list attempts)
whole_sent retries list [] legal whole = absurd legal
whole_sent retries list (a ∷ []) legal whole =
    let first = sent_with list.frames list.first_priority (marks_of a) in
    let all = whole_attempt list a legal.0 whole in
    omega (arith, length-append first [])
whole_sent zero list (a ∷ b ∷ more) legal whole = absurd legal
whole_sent (suc retries) list (a ∷ b ∷ more) legal whole =
    let first = sent_with list.frames list.first_priority (marks_of a) in
    let rest = whole_sent retries list (b ∷ more) legal.2 whole in
    omega (arith, length-append first (all_sent list (b ∷ more)))

-- a transaction that was done sent each of its frames
pub done_is_whole : (report : ReportParts) (reply : Reply) → IsReportParts report → report.outcome ≡ Done reply
    → length report.transaction.frames ≤ length report.attempts
done_is_whole report reply parts done =
    let spelled = parts.spelled in
    let attempts = spelled.attempts in
    let whole = is_whole (last_mark attempts) reply (sym spelled.outcome ∙ done) in
    let all = whole_sent (report.tries - 1) report.transaction attempts spelled.legal whole in
    omega (arith, ap length spelled.sent)
