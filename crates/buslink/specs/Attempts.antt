-- The attempts at a transaction, and the reports of them (profile).
use Rattle.std.specs.Prelude.{◌≡◌, ℕ, zero, suc, ◌+◌, ◌-◌, ◌*◌, ◌<◌, List, [], ◌∷◌, ◌++◌, length, All}
use Rattle.daliframe.specs.declared.forward.Frame.{Frame}
use Rattle.buslink.specs.declared.marks.Mark.{Mark}
use Rattle.buslink.specs.declared.marks.Mark.TheVariants.{Quiet, Lost}
use Rattle.buslink.specs.declared.marks.Sent.{Sent}
use Rattle.buslink.specs.declared.marks.Outcome.{Outcome}
use Rattle.limits.specs.Limits.{most_tries, AreTries}
use Rattle.gearcmd.specs.FrameLists.{FrameList, most_frames}
use Rattle.buslink.specs.Marks.{IsBroken, outcome_of}

-- an attempt by the marks of its frames: those before the last, and the last
pub record Attempt : Type 0 where
  pub before : List Mark
  pub last : Mark

abbrev pub marks_of : Attempt → List Mark
marks_of a = a.before ++ a.last ∷ []

-- An attempt sends a front of count frames. No mark but the last is Lost or Failed, and where the front is not all
-- frames the last is.
pub record IsAttempt (count : ℕ) (a : Attempt) : Type 0 where
  pub within : length a.before < count
  pub unbroken : All (λ mark. ¬ IsBroken mark) a.before
  pub cut : length a.before + 1 < count → IsBroken a.last

-- A report is of at most one attempt more than retries. Each attempt but the last ends by Lost; the last only where no
-- retry is left.
abbrev pub IsReport : ℕ → ℕ → List Attempt → Type 0
IsReport retries count [] = ⊥
IsReport retries count (a ∷ []) = IsAttempt count a × (a.last ≡ Lost → retries ≡ 0)
IsReport zero count (a ∷ b ∷ more) = ⊥
IsReport (suc retries) count (a ∷ b ∷ more) = IsAttempt count a × (a.last ≡ Lost) × IsReport retries count (b ∷ more)

-- the most frames that are sent for a transaction: all of them, in each of the most attempts (profile)
abbrev pub most_sent : ℕ
most_sent = most_tries * most_frames

-- the marks of all attempts, in order
abbrev pub all_marks : List Attempt → List Mark
all_marks [] = []
all_marks (a ∷ more) = marks_of a ++ all_marks more

-- the frames of a front with these marks: the first has its own priority, each later one 1
abbrev pub sent_with : List Frame → ℕ → List Mark → List Sent
sent_with [] first marks = []
sent_with (f ∷ frames) first [] = []
sent_with (f ∷ frames) first (m ∷ marks) = record { frame = f; priority = first; mark = m } ∷ sent_with frames 1 marks

-- each attempt sends the whole transaction anew
abbrev pub all_sent : FrameList → List Attempt → List Sent
all_sent list [] = []
all_sent list (a ∷ more) = sent_with list.frames list.first_priority (marks_of a) ++ all_sent list more

abbrev pub last_mark : List Attempt → Mark
last_mark [] = Quiet
last_mark (a ∷ []) = a.last
last_mark (a ∷ b ∷ more) = last_mark (b ∷ more)

-- what a report says: the transaction, the number of attempts of the bus that it was made for, the frames as they were
-- sent, and how it ended
pub record ReportParts : Type 0 where
  pub transaction : FrameList
  pub tries : ℕ
  pub attempts : List Sent
  pub outcome : Outcome

-- on a bus that has `most` attempts for a transaction these marks spell this report of it, by these attempts
pub record Spells (list : FrameList) (most : ℕ) (marks : List Mark) (r : ReportParts) : Type 0 where
  pub attempts : List Attempt
  pub legal : IsReport (most - 1) (length list.frames) attempts
  pub spelled : marks ≡ all_marks attempts
  pub transaction : r.transaction ≡ list
  pub tries : r.tries ≡ most
  pub sent : r.attempts ≡ all_sent list attempts
  pub outcome : r.outcome ≡ outcome_of (last_mark attempts)

-- the bus has a number of attempts that a bus may be given, and some marks spell the report
pub record IsReportParts (r : ReportParts) : Type 0 where
  pub tries : AreTries r.tries
  pub marks : List Mark
  pub spelled : Spells r.transaction r.tries marks r

-- on a bus that has `most` attempts for a transaction these marks spell no report of it
abbrev pub SpellsNone : FrameList → ℕ → List Mark → Type 0
SpellsNone list most marks =
    (attempts : List Attempt) → IsReport (most - 1) (length list.frames) attempts → ¬ (marks ≡ all_marks attempts)
