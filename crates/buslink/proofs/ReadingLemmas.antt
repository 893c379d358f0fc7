-- The steps of reading marks as attempts.
use Rattle.std.proofs.Common.{◌≡◌, ℕ, inl, inr, zero, suc, ◌+◌, ◌-◌, ◌<◌, List, [], ◌∷◌, ◌++◌, length, take, drop}
use Rattle.std.proofs.Common.{slice_index_or, refl, sym, ◌∙◌, ap, append_assoc, arith}
use Rattle.std.specs.Prelude.{IsTrue, true, false, ◌==◌, Option, Some, None, MatchOption}
use Rattle.std.proofs.lemmas.Bool.{cases_lt, eqb-true}
use Rattle.std.proofs.lemmas.List.{take-append-drop, take_more, get_or_default, append-nil}
use Rattle.daliframe.specs.declared.forward.Frame.{Frame}
use Rattle.buslink.specs.declared.marks.Mark.{Mark}
use Rattle.buslink.specs.declared.marks.Mark.TheVariants.{Quiet, Lost}
use Rattle.buslink.specs.declared.marks.Sent.{Sent}
use Rattle.buslink.specs.declared.marks.Outcome.{Outcome}
use Rattle.gearcmd.specs.FrameLists.{FrameList}
use Rattle.buslink.specs.Marks.{outcome_of}
use Rattle.buslink.specs.Attempts.{Spells, Attempt, IsAttempt, IsReport, marks_of, all_marks, sent_with}
use Rattle.buslink.specs.Attempts.{all_sent, last_mark}
use Rattle.buslink.specs.ReadingSteps.{EndsAt, IsRead, ReadsNone, HasNoAttempt}
use Rattle.buslink.proofs.AttemptLemmas.{same_attempt}

-- nothing is sent with no marks
pub sent_with_none : (frames : List Frame) (first : ℕ) → sent_with frames first [] ≡ []
sent_with_none [] first = refl
sent_with_none (f ∷ frames) first = refl

regroup : (xs ys zs : List Sent) → (xs ++ ys) ++ zs ≡ xs ++ (ys ++ zs)
regroup xs ys zs = simp append_assoc

-- ---- reports by their first attempt
report_first : (retries count : ℕ) (a : Attempt) (more : List Attempt) → IsReport retries count (a ∷ more)
    → IsAttempt count a
report_first retries count a [] h = h.0
report_first zero count a (b ∷ more) h = absurd h
report_first (suc retries) count a (b ∷ more) h = h.0

-- where no attempt begins, no report does
pub reads_none : (list : FrameList) (retries : ℕ) (marks : List Mark) → HasNoAttempt (length list.frames) marks
    → ReadsNone list retries marks
reads_none list retries marks none [] h e = h
reads_none list retries marks none (a ∷ more) h e =
    none a (all_marks more) (report_first retries (length list.frames) a more h) e

-- an attempt that is the last, with nothing behind it
pub reads_last : (list : FrameList) (retries : ℕ) (marks : List Mark) (before : List Sent) (a : Attempt)
    → IsAttempt (length list.frames) a
    → (a.last ≡ Lost → retries ≡ 0) → marks ≡ marks_of a ++ []
    → IsRead list retries marks before (before ++ sent_with list.frames list.first_priority (marks_of a)) a.last
reads_last list retries marks before a is settled e = record {
  attempts = a ∷ [];
  legal = (is, settled);
  spelled = e;
  sent = ap (λ xs. before ++ xs) (sym (append-nil (sent_with list.frames list.first_priority (marks_of a))));
  ends = refl;
}

-- no attempt goes behind one that is the last
pub reads_too_much : (list : FrameList) (retries : ℕ) (marks rest : List Mark) (a : Attempt)
    → IsAttempt (length list.frames) a
    → (a.last ≡ Lost → retries ≡ 0) → marks ≡ marks_of a ++ rest → ¬ (rest ≡ []) → ReadsNone list retries marks
reads_too_much list retries marks rest a is settled e more [] h spelled = h
reads_too_much list retries marks rest a is settled e more (b ∷ []) h spelled =
    more (same_attempt (length list.frames) a b rest [] is h.0 (sym e ∙ spelled)).1
reads_too_much list zero marks rest a is settled e more (b ∷ c ∷ others) h spelled = h
reads_too_much list (suc retries) marks rest a is settled e more (b ∷ c ∷ others) h spelled =
    let same : a.last ≡ b.last =
    ap (λ (x : Attempt). x.last) (same_attempt (length list.frames) a b rest (all_marks (c ∷ others)) is h.0
    (sym e ∙ spelled)).0 in
    let none_left : suc retries ≡ 0 = settled (same ∙ h.1) in
    absurd (omega arith)

-- an attempt that was lost, and then a report with one retry fewer
pub reads_retried : (list : FrameList) (retries : ℕ) (marks rest : List Mark) (before middle after : List Sent)
    (last : Mark) (a : Attempt)
    → IsAttempt (length list.frames) a → a.last ≡ Lost → marks ≡ marks_of a ++ rest
    → middle ≡ before ++ sent_with list.frames list.first_priority (marks_of a)
    → IsRead list retries rest middle after last → IsRead list (suc retries) marks before after last
reads_retried list retries marks rest before middle after last a is lost e sends r =
    behind r.attempts r.legal r.spelled r.sent r.ends
  where
    behind : (attempts : List Attempt) → IsReport retries (length list.frames) attempts → rest ≡ all_marks attempts
        → after ≡ middle ++ all_sent list attempts → last ≡ last_mark attempts
        → IsRead list (suc retries) marks before after last
    behind [] h spelled sent ends = absurd h
    behind (b ∷ more) h spelled sent ends = record {
      attempts = a ∷ b ∷ more;
      legal = (is, lost, h);
      spelled = e ∙ ap (λ xs. marks_of a ++ xs) spelled;
      sent = sent ∙ ap (λ xs. xs ++ all_sent list (b ∷ more)) sends
          ∙ regroup before (sent_with list.frames list.first_priority (marks_of a)) (all_sent list (b ∷ more));
      ends = ends;
    }

pub reads_none_retried : (list : FrameList) (retries : ℕ) (marks rest : List Mark) (a : Attempt)
    → IsAttempt (length list.frames) a → a.last ≡ Lost → marks ≡ marks_of a ++ rest
    → ReadsNone list retries rest → ReadsNone list (suc retries) marks
reads_none_retried list retries marks rest a is lost e none [] h spelled = h
reads_none_retried list retries marks rest a is lost e none (b ∷ []) h spelled =
    let same : a.last ≡ b.last =
    ap (λ (x : Attempt). x.last) (same_attempt (length list.frames) a b rest [] is h.0 (sym e ∙ spelled)).0 in
    let none_left : suc retries ≡ 0 = h.1 (sym same ∙ lost) in
    absurd (omega arith)
reads_none_retried list retries marks rest a is lost e none (b ∷ c ∷ more) h spelled =
    none (c ∷ more) h.2 (same_attempt (length list.frames) a b rest (all_marks (c ∷ more)) is h.0 (sym e ∙ spelled)).1

-- ---- a step of reading: the attempt at the front of the marks, what it sent, and the marks behind it
pub record Step (list : FrameList) (marks : List Mark) (end : ℕ) (frames : List Frame) (first : ℕ)
    (front rest : List Mark) (before middle : List Sent) : Type 0 where
  pub frames_are : frames ≡ list.frames
  pub first_is : first ≡ list.first_priority
  pub ends : EndsAt (length frames) marks end
  pub front_is : front ≡ take (end + 1) marks
  pub rest_is : rest ≡ drop (end + 1) marks
  pub sends : middle ≡ before ++ sent_with frames first front

record Taken (list : FrameList) (marks rest : List Mark) (before middle : List Sent) (a : Attempt) : Type 0 where
  pub is : IsAttempt (length list.frames) a
  pub parts : marks ≡ marks_of a ++ rest
  pub sends : middle ≡ before ++ sent_with list.frames list.first_priority (marks_of a)

attempt_at : List Mark → ℕ → Attempt
attempt_at marks end = record { before = take end marks; last = slice_index_or marks end Quiet }

taken : (list : FrameList) (marks : List Mark) (end : ℕ) (frames : List Frame) (first : ℕ) (front rest : List Mark)
    (before middle : List Sent)
    → Step list marks end frames first front rest before middle
    → Taken list marks rest before middle (attempt_at marks end)
unfolding attempt_at
taken list marks end frames first front rest before middle s =
    let inside : end < length marks = s.ends.inside in
    let last_is : s.ends.last ≡ slice_index_or marks end Quiet =
    s.ends.is_last ∙ get_or_default marks end s.ends.last Quiet inside in
    let whole : take (end + 1) marks ≡ take end marks ++ slice_index_or marks end Quiet ∷ [] =
    take_more marks end Quiet inside in
    let is : IsAttempt (length frames) (record { before = take end marks; last = slice_index_or marks end Quiet }) =
    rw last_is at s.ends.attempt in
    record {
      is = rw s.frames_are at is;
      parts = sym (take-append-drop (end + 1) marks) ∙ cc;
      sends = let parts : front ≡ take end marks ++ slice_index_or marks end Quiet ∷ [] = s.front_is ∙ whole in cc;
    }

pub step_last : (list : FrameList) (retries : ℕ) (marks : List Mark) (end : ℕ) (frames : List Frame) (first : ℕ)
    (front rest : List Mark) (before middle : List Sent)
    → Step list marks end frames first front rest before middle → rest ≡ [] → (slice_index_or marks end Quiet ≡ Lost
    → retries ≡ 0)
    → IsRead list retries marks before middle (slice_index_or marks end Quiet)
unfolding attempt_at
step_last list retries marks end frames first front rest before middle s empty settled =
    let t : Taken list marks rest before middle (attempt_at marks end) =
    taken list marks end frames first front rest before middle s in
    let parts : marks ≡ marks_of (attempt_at marks end) ++ [] = rw empty at t.parts in
    rw t.sends (reads_last list retries marks before (attempt_at marks end) t.is settled parts)

pub step_none : (list : FrameList) (retries : ℕ) (marks : List Mark) (end : ℕ) (frames : List Frame) (first : ℕ)
    (front rest : List Mark) (before middle : List Sent)
    → Step list marks end frames first front rest before middle → ¬ (rest ≡ [])
    → (slice_index_or marks end Quiet ≡ Lost → retries ≡ 0) → ReadsNone list retries marks
unfolding attempt_at
step_none list retries marks end frames first front rest before middle s more settled =
    let t : Taken list marks rest before middle (attempt_at marks end) =
    taken list marks end frames first front rest before middle s in
    reads_too_much list retries marks rest (attempt_at marks end) t.is settled t.parts more

pub step_retried : (list : FrameList) (retries : ℕ) (marks : List Mark) (end : ℕ) (frames : List Frame) (first : ℕ)
    (front rest : List Mark) (before middle : List Sent) (after : List Sent) (r : Option Mark)
    → Step list marks end frames first front rest before middle → slice_index_or marks end Quiet ≡ Lost → 0 < retries
    → MatchOption r (ReadsNone list (retries - 1) rest) (λ last. IsRead list (retries - 1) rest middle after last)
    → MatchOption r (ReadsNone list retries marks) (λ last. IsRead list retries marks before after last)
unfolding attempt_at
step_retried list zero marks end frames first front rest before middle after r s lost left h = absurd (omega arith)
step_retried list (suc retries) marks end frames first front rest before middle after None s lost left h =
    let t : Taken list marks rest before middle (attempt_at marks end) =
    taken list marks end frames first front rest before middle s in
    let fewer : suc retries - 1 ≡ retries = omega arith in
    reads_none_retried list retries marks rest (attempt_at marks end) t.is lost t.parts (rw fewer at h)
step_retried list (suc retries) marks end frames first front rest before middle after (Some last) s lost left h =
    let t : Taken list marks rest before middle (attempt_at marks end) =
    taken list marks end frames first front rest before middle s in
    let fewer : suc retries - 1 ≡ retries = omega arith in
    reads_retried list retries marks rest before middle after last (attempt_at marks end) t.is lost t.parts t.sends
    (rw fewer at h)

-- no retry is left where one would be made
pub none_left : (retries : ℕ) (P : Type 0) → (P × (0 < retries) → IsTrue false) → P → retries ≡ 0
none_left retries P refused p = elim (cases_lt 0 retries) as (λ _. retries ≡ 0) [
  | inl lt ↦ absurd (let e : false ≡ true = refused (p, lt) in cc)
  | inr ge ↦ omega arith
]

zero_is_length : (marks : List Mark) → (length marks == 0) ≡ true → ¬ (0 < length marks)
zero_is_length marks e lt = let n : length marks ≡ 0 = eqb-true (length marks) 0 e in omega arith

pub empty_at : (marks : List Mark) → true ≡ (length marks == 0) → marks ≡ []
empty_at [] e = refl
empty_at (m ∷ marks) e = absurd (zero_is_length (m ∷ marks) (sym e) (omega arith))

pub filled_at : (marks : List Mark) → false ≡ (length marks == 0) → ¬ (marks ≡ [])
filled_at marks e empty = let e' : false ≡ true = e ∙ ap (λ (xs : List Mark). length xs == 0) empty in cc

-- what was read from the start is a report
pub report_of_read : (list kept : FrameList) (most : ℕ) (marks : List Mark) (before after : List Sent) (final : Mark)
    (o : Outcome)
    → IsRead list (most - 1) marks before after final → before ≡ [] → kept ≡ list → o ≡ outcome_of final
    → Spells kept most marks (record { transaction = kept; tries = most; attempts = after; outcome = o })
report_of_read list kept most marks before after final o r empty same ends = rw same (record {
  attempts = r.attempts;
  legal = r.legal;
  spelled = r.spelled;
  transaction = refl;
  tries = refl;
  sent = r.sent ∙ ap (λ xs. xs ++ all_sent list r.attempts) empty;
  outcome = ends ∙ ap outcome_of r.ends;
})
