-- How marks are read as attempts, one after another: what the steps of reading a report find.
use Rattle.std.specs.Prelude.{◌≡◌, ℕ, ◌<◌, List, ◌++◌, length, slice_index_or, take}
use Rattle.buslink.specs.declared.marks.Mark.{Mark}
use Rattle.buslink.specs.declared.marks.Sent.{Sent}
use Rattle.gearcmd.specs.FrameLists.{FrameList}
use Rattle.buslink.specs.Attempts.{Attempt, IsAttempt, IsReport, marks_of, all_marks, all_sent, last_mark}

-- the marks up to the one at end, that one included, are those of an attempt at count frames
pub record EndsAt (count : ℕ) (marks : List Mark) (end : ℕ) : Type 0 where
  pub last : Mark
  pub inside : end < length marks
  pub is_last : last ≡ slice_index_or marks end last
  pub attempt : IsAttempt count (record { before = take end marks; last = last })

-- no attempt at count frames has its marks at the front
abbrev pub HasNoAttempt : ℕ → List Mark → Type 0
HasNoAttempt count marks = (a : Attempt) (rest : List Mark) → IsAttempt count a → ¬ (marks ≡ marks_of a ++ rest)

-- the marks are those of attempts that a report with so many retries has; what they sent goes behind before, and they
-- end with last
pub record IsRead (list : FrameList) (retries : ℕ) (marks : List Mark) (before after : List Sent) (last : Mark)
    : Type 0 where
  pub attempts : List Attempt
  pub legal : IsReport retries (length list.frames) attempts
  pub spelled : marks ≡ all_marks attempts
  pub sent : after ≡ before ++ all_sent list attempts
  pub ends : last ≡ last_mark attempts

abbrev pub ReadsNone : FrameList → ℕ → List Mark → Type 0
ReadsNone list retries marks =
    (attempts : List Attempt) → IsReport retries (length list.frames) attempts → ¬ (marks ≡ all_marks attempts)
