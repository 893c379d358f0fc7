-- What is known of a change that was tried, and when a fault is gone with it.
use Rattle.std.specs.Prelude.{◌≡◌, ◌<◌, ◌≤◌, ◌-◌, ◌==◌, ◌||◌, ◌⊎◌, ◌↔◌, max, not, ⊤, ℕ, Bool, IsTrue}
use Rattle.std.specs.Prelude.{List, Result, Ok, Err, ◌++◌, count_by, drop, take, length}
use Rattle.wordlines.specs.Wirings.{Wiring}
use Rattle.ilsource.specs.Places.{line_at, col_at}
use Rattle.iltext.specs.declared.fault.TextFault.TheVariants as text_faults
use Rattle.ildeclared.specs.declared.fault.NameFault.TheVariants as name_faults
use Rattle.ilcompile.specs.Loaded.{Loaded}
use Rattle.plantload.specs.Loading.{IsLoaded}
use Rattle.plantload.specs.declared.fault.LoadFault.{LoadFault}
use Rattle.plantload.specs.declared.fault.LoadFault.TheVariants as faults
use Rattle.explaincures.specs.declared.edits.Edit.{Edit}
use Rattle.explaincures.specs.declared.edits.Side.{Side}
use Rattle.explaincures.specs.declared.edits.Side.TheVariants.{Before, There, Behind}
use Rattle.explaincures.specs.declared.edits.EditOutcome.{EditOutcome}
use Rattle.explaincures.specs.declared.edits.EditOutcome.TheVariants.{Accepted, Ended, Text, Name, Code}
use Rattle.explaincures.specs.declared.answers.Example.{Example}
use Rattle.explaincures.specs.declared.answers.FaultAnswer.{FaultAnswer}
use Rattle.explaincures.specs.declared.answers.Example.TheVariants.{Changed}

-- the bytes from one place up to another
abbrev pub part_of : List ℕ → ℕ → ℕ → List ℕ
part_of bytes first last = drop first (take last bytes)

-- the bytes from one place on, with the change, up to another
abbrev pub changed_part : Edit → List ℕ → ℕ → ℕ → List ℕ
changed_part edit text first last =
    part_of text first edit.from ++ (edit.with.items ++ part_of text edit.to last)

-- the text with the change
abbrev pub changed : Edit → List ℕ → List ℕ
changed edit text = take edit.from text ++ (edit.with.items ++ drop edit.to text)

-- how many lines there are
abbrev pub lines_of : List ℕ → ℕ
lines_of bytes = line_at bytes (length bytes)

-- the line of the changed text up to which the change reaches, and a line of the text that it is to cure: as many lines
-- stand behind it as in the text behind both
abbrev pub last_line : Edit → List ℕ → List ℕ → ℕ → ℕ
last_line edit text bytes asked = lines_of bytes - (lines_of text - max (line_at text edit.to) asked)

-- a line of the changed text stands before those of the change, among those up to that line, or behind them
abbrev pub IsOnSide : Edit → List ℕ → List ℕ → ℕ → ℕ → Side → Type 0
IsOnSide edit text bytes asked line Before = line < line_at text edit.from
IsOnSide edit text bytes asked line There =
    (line_at text edit.from ≤ line) × (line ≤ last_line edit text bytes asked)
IsOnSide edit text bytes asked line Behind =
    (line_at text edit.from ≤ line) × (last_line edit text bytes asked < line)

-- a line and a column are those of the end of some bytes
abbrev pub IsEnd : List ℕ → ℕ → ℕ → Type 0
IsEnd bytes line col = (line ≡ line_at bytes (length bytes)) × (col ≡ col_at bytes (length bytes))

-- neither a blank (32, 9) nor of the end of a line (10, 13)
abbrev pub is_solid : ℕ → Bool
is_solid byte = not ((byte == 32) || (byte == 9) || (byte == 10) || (byte == 13))

-- how much stands in some bytes, blanks aside
abbrev pub content_of : List ℕ → ℕ
content_of bytes = count_by is_solid bytes

-- what is said of a fault of the changed text: of which pass it is, and where it stands; at its end, whether more
-- stands in it than in the text
abbrev pub TellsFault : Edit → List ℕ → List ℕ → ℕ → LoadFault → EditOutcome → Type 0
TellsFault edit text bytes asked (faults.Text (text_faults.At line col cause)) (Ended has_more) =
    IsEnd bytes line col × (IsTrue has_more ↔ (content_of text < content_of bytes))
TellsFault edit text bytes asked (faults.Text (text_faults.At line col cause)) (Text side) =
    ¬ IsEnd bytes line col × IsOnSide edit text bytes asked line side
TellsFault edit text bytes asked (faults.Name (name_faults.At line col cause)) (Name side) =
    IsOnSide edit text bytes asked line side
TellsFault edit text bytes asked (faults.Code refused) (Code task word) =
    (task ≡ refused.task) × (word ≡ refused.refusal.word)
TellsFault edit text bytes asked _ _ = ⊥

-- it is said to be accepted where it is, and else what stands against it
abbrev pub Tells : Edit → List ℕ → List ℕ → ℕ → Result Loaded LoadFault → EditOutcome → Type 0
Tells edit text bytes asked (Ok setup) outcome = outcome ≡ Accepted
Tells edit text bytes asked (Err fault) outcome = TellsFault edit text bytes asked fault outcome

-- what is said of the change, which is to cure what stands on a line, is what the loader says of the text with it
pub record IsTried (wiring : Wiring) (text : List ℕ) (asked : ℕ) (edit : Edit) (outcome : EditOutcome) : Type 0 where
  pub answer : Result Loaded LoadFault
  pub loaded : IsLoaded wiring (changed edit text) answer
  pub told : Tells edit text (changed edit text) asked answer outcome

-- where the first fault of a text stood at this line and column: the text is accepted, or reads up to its end, with more
-- in it where that fault stood at its end too; or its first fault stands behind the change and the line; or it is one of
-- a later pass
abbrev pub ReadsOn : List ℕ → ℕ → ℕ → EditOutcome → Type 0
ReadsOn text line col (Text side) = side ≡ Behind
ReadsOn text line col (Ended has_more) = IsEnd text line col → IsTrue has_more
ReadsOn text line col _ = ⊤

-- the text is accepted, or the least fault of its names stands behind the change and the line that it is to cure,
-- or a task is refused
abbrev pub NamesOn : EditOutcome → Type 0
NamesOn (Text side) = ⊥
NamesOn (Ended has_more) = ⊥
NamesOn (Name side) = side ≡ Behind
NamesOn _ = ⊤

-- the text is accepted, or the first word that is refused stands behind this one, in this task or in a later one
abbrev pub RunsOn : ℕ → ℕ → EditOutcome → Type 0
RunsOn task word Accepted = ⊤
RunsOn task word (Code other place) = (task < other) ⊎ ((task ≡ other) × (word < place))
RunsOn task word _ = ⊥

-- a fault of the text is gone
abbrev pub IsGone : List ℕ → LoadFault → EditOutcome → Type 0
IsGone text (faults.Text (text_faults.At line col cause)) outcome = ReadsOn text line col outcome
IsGone text (faults.Name fault) outcome = NamesOn outcome
IsGone text (faults.Code refused) outcome = RunsOn refused.task refused.refusal.word outcome
IsGone text _ outcome = ⊥

-- a change of the text that is shown is one of these
abbrev pub IsShown : (Edit → Type 0) → Example → Type 0
IsShown Cures (Changed edit) = Cures edit
IsShown Cures _ = ⊤

-- the change was tried, and what stands against the text with it is of this kind
pub record IsCure (wiring : Wiring) (text : List ℕ) (asked : ℕ) (Gone : EditOutcome → Type 0) (edit : Edit)
    : Type 0 where
  pub outcome : EditOutcome
  pub tried : IsTried wiring text asked edit outcome
  pub gone : Gone outcome

-- a change of the text that is shown is such a cure of what stands on a line
abbrev pub ShowsCure : Wiring → List ℕ → ℕ → (EditOutcome → Type 0) → FaultAnswer → Type 0
ShowsCure wiring text asked Gone answer = IsShown (IsCure wiring text asked Gone) answer.example
