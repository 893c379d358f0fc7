-- What is known of a line that is proposed in the place of a bad one.
use Rattle.std.specs.Prelude.{◌≡◌, ◌<◌, ◌⊎◌, ⊤, ℕ, List, Result, Ok, Err}
use Rattle.wordlines.specs.Bindings.{IsBadBinding, IsBinding}
use Rattle.wordlines.specs.LineFiles.{IsTooLong}
use Rattle.wordlines.specs.Scenarios.{IsBadScenario, IsScenario}
use Rattle.wordlines.specs.Wirings.{Wiring}
use Rattle.wordlines.specs.declared.fault.LineFault.{LineFault}
use Rattle.wordlines.specs.declared.fault.LineFault.TheVariants.{At, Memory}
use Rattle.wordlines.specs.declared.statements.Statement.{Statement}
use Rattle.ilsource.specs.Places.{line_at}
use Rattle.explaincures.specs.Trying.{changed, last_line}
use Rattle.explaincures.specs.declared.edits.Edit.{Edit}
use Rattle.explainlines.specs.declared.lines.LineFile.{LineFile}
use Rattle.explainlines.specs.declared.lines.LineFile.TheVariants.{Binding, Scenario}

-- what was read of a file has no fault up to this line
abbrev pub ReadsTo : {Value Of : Type 0} → ℕ → Result Value (LineFault Of) → Type 0
ReadsTo last (Ok value) = ⊤
ReadsTo last (Err Memory) = ⊥
ReadsTo last (Err (At line cause)) = last < line

-- the bytes are such a file
abbrev pub IsAccepted : LineFile → List ℕ → Type 0
IsAccepted Binding bytes = (wiring : Wiring) × IsBinding bytes wiring
IsAccepted Scenario bytes = (statements : List Statement) × IsScenario bytes statements

-- the fault of such a file stands on this line
abbrev pub IsBadAt : LineFile → List ℕ → ℕ → Type 0
IsBadAt Binding bytes line = IsBadBinding bytes line ⊎ IsTooLong bytes line
IsBadAt Scenario bytes line = IsBadScenario bytes line ⊎ IsTooLong bytes line

-- the bytes are such a file, or have their fault behind this line
abbrev pub IsGoodTo : LineFile → List ℕ → ℕ → Type 0
IsGoodTo file bytes last = IsAccepted file bytes ⊎ ((line : ℕ) × IsBadAt file bytes line × (last < line))

-- with the change the file has no fault up to the last line of the change, and up to the line that it is to cure
abbrev pub IsGoodWith : LineFile → List ℕ → ℕ → Edit → Type 0
IsGoodWith file bytes asked edit =
    IsGoodTo file (changed edit bytes) (last_line edit bytes (changed edit bytes) asked)

-- the change stands in the place of something of the line of this number, and of no other
abbrev pub IsOnLine : List ℕ → ℕ → Edit → Type 0
IsOnLine bytes number edit = (line_at bytes edit.from ≡ number) × (line_at bytes edit.to ≡ number)

-- a change of the line after which the file has no fault up to there
abbrev pub CuresLine : LineFile → List ℕ → ℕ → Edit → Type 0
CuresLine file bytes number edit = IsOnLine bytes number edit × IsGoodWith file bytes number edit
