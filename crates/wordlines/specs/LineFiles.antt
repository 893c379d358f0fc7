-- Files of lines (profile): which bytes are one by the rules of its kind, which line of others is at fault, and what is
-- reported of each.
use Rattle.std.specs.Prelude.{◌≡◌, ℕ, ◌<◌, ◌≤◌, ◌⊎◌, List, ◌∷◌, ◌++◌, length, Result, Ok, Err}
use Rattle.std.specs.Str.Lines.{lines}
use Rattle.limits.specs.Limits.{most_bytes}
use Rattle.wordlines.specs.LineRules.{LineRules, Adds, AllLead, IsFirstBad}
use Rattle.wordlines.specs.declared.fault.LineCause.TheVariants.{BadLine, TooLong}
use Rattle.wordlines.specs.declared.fault.LineFault.{LineFault}
use Rattle.wordlines.specs.declared.fault.LineFault.TheVariants.{Memory, At}

-- the bytes are not too many, and their lines, one after another, lead from the start to this state
pub record LeadTo {Entry State : Type 0} (rules : LineRules Entry State) (start : State) (bytes : List ℕ)
    (state : State) : Type 0 where
  pub short : length bytes ≤ most_bytes
  pub lead : AllLead rules start (lines bytes) state

-- the bytes are not too many, and this is their first bad line
pub record AreBadAt {Entry State : Type 0} (rules : LineRules Entry State) (start : State) (bytes : List ℕ)
    (line : ℕ) : Type 0 where
  pub short : length bytes ≤ most_bytes
  pub bad : IsFirstBad rules start (lines bytes) line

-- the bytes are too many, which is reported at line 1
pub record IsTooLong (bytes : List ℕ) (line : ℕ) : Type 0 where
  pub long : most_bytes < length bytes
  pub first : line ≡ 1

-- the line adds an entry that is kept to what the lines before it led to
pub record AddsKept {Entry State : Type 0} (rules : LineRules Entry State) (IsKept : Entry → Type 0) (state : State)
    (line : List ℕ) : Type 0 where
  pub entry : Entry
  pub kept : IsKept entry
  pub adds : Adds rules state line entry

-- some line adds an entry that is kept
pub record KeepSome {Entry State : Type 0} (rules : LineRules Entry State) (start : State) (IsKept : Entry → Type 0)
    (all : List (List ℕ)) : Type 0 where
  pub before : List (List ℕ)
  pub line : List ℕ
  pub after : List (List ℕ)
  pub is : all ≡ before ++ line ∷ after
  pub state : State
  pub good : AllLead rules start before state
  pub adds : AddsKept rules IsKept state line

-- what is reported of bytes: what they say, a bad line, that they are too many, or, where they need memory, that it was
-- refused
abbrev pub IsReport : {Value Of : Type 0} → (Value → Type 0) → (ℕ → Type 0) → Type 0 → List ℕ
    → Result Value (LineFault Of) → Type 0
IsReport Says IsBad NeedsMemory bytes (Ok value) = Says value
IsReport Says IsBad NeedsMemory bytes (Err Memory) = NeedsMemory
IsReport Says IsBad NeedsMemory bytes (Err (At line BadLine)) = IsBad line
IsReport Says IsBad NeedsMemory bytes (Err (At line TooLong)) = IsTooLong bytes line

-- this is the outcome, or memory was refused
abbrev pub GivesIfRoom : {Value Of : Type 0} → Result Value (LineFault Of) → Result Value (LineFault Of) → Type 0
GivesIfRoom result outcome = (result ≡ outcome) ⊎ (result ≡ Err Memory)
