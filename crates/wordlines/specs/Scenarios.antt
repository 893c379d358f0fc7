-- Which bytes are a scenario, with its statements in order, and which line is at fault where they are not one
-- (profile).
use Rattle.std.specs.Prelude.{◌≡◌, ℕ, List, [], ◌++◌, Some, Result, ⊤}
use Rattle.std.specs.Str.Lines.{lines}
use Rattle.wordlines.specs.LineFiles.{LeadTo, AreBadAt, KeepSome, IsReport}
use Rattle.wordlines.specs.LineRules.{LineRules}
pub use Rattle.wordlines.specs.LineFiles.{GivesIfRoom, IsTooLong}
use Rattle.wordlines.specs.declared.fault.LineFault.{LineFault}
use Rattle.wordlines.specs.Saying.{said}
use Rattle.wordlines.specs.Entries.{statements_of}
use Rattle.wordlines.specs.Following.{MayStand}
use Rattle.wordlines.specs.declared.entries.ScenarioEntry.{ScenarioEntry}
use Rattle.wordlines.specs.declared.statements.Statement.{Statement}

-- the rules of the lines of a scenario: the state is the statements so far
abbrev pub scenario_rules : LineRules ScenarioEntry (List Statement)
scenario_rules = record {
  Says = λ words entry. said words ≡ Some entry;
  Follows = MayStand;
  after = λ statements entry. statements ++ statements_of entry;
}

-- the bytes are a scenario of these statements
abbrev pub IsScenario : List ℕ → List Statement → Type 0
IsScenario bytes statements = LeadTo scenario_rules [] bytes statements

-- the bytes are no scenario, and this is the first bad line
abbrev pub IsBadScenario : List ℕ → ℕ → Type 0
IsBadScenario bytes line = AreBadAt scenario_rules [] bytes line

-- what a line stands for is kept
abbrev pub IsKept : ScenarioEntry → Type 0
IsKept entry = ⊤

-- some line adds statements to those of the lines before it
abbrev pub AddsSome : List (List ℕ) → Type 0
AddsSome all = KeepSome scenario_rules [] IsKept all

abbrev pub ScenarioFault : Type 0
ScenarioFault = LineFault (List Statement)

-- what is reported of bytes: a scenario, the first bad line, that they are too many, or, where a statement is to be
-- kept, that memory was refused
abbrev pub IsJudged : List ℕ → Result (List Statement) ScenarioFault → Type 0
IsJudged bytes result = IsReport (IsScenario bytes) (IsBadScenario bytes) (AddsSome (lines bytes)) bytes result
