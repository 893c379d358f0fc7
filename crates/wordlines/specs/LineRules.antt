-- Files that are read line by line, as bindings and scenarios are (profile): which line is at fault. A kind of file has
-- its rules: what the words of a line say, whether that may follow in the state that the lines before it left, and the
-- state after it. Empty lines and comments are skipped, and leave the state as it is.
use Rattle.std.specs.Prelude.{◌≡◌, ℕ, ◌+◌, ◌⊎◌, List, [], ◌∷◌, ◌++◌, length}
use Rattle.wordlines.specs.WordLines.{words, IsSkipped}

-- the rules of a kind of file whose lines say entries
pub record LineRules (Entry State : Type 0) : Type 1 where
  -- these words say this entry
  pub Says : List (List ℕ) → Entry → Type 0
  -- the entry may follow in this state
  pub Follows : State → Entry → Type 0
  -- the state after it
  pub after : State → Entry → State

-- the line is not skipped, says this entry, and may stand where the lines before it left this state
pub record Adds {Entry State : Type 0} (rules : LineRules Entry State) (state : State) (line : List ℕ)
    (entry : Entry) : Type 0 where
  pub read : ¬ IsSkipped line
  pub says : rules.Says (words line) entry
  pub follows : rules.Follows state entry

-- the line may stand in this state and leads to the next: it is skipped, or adds an entry
abbrev pub Leads : {Entry State : Type 0} → LineRules Entry State → State → List ℕ → State → Type 0
Leads {Entry} {State} rules state line next =
    (IsSkipped line × (next ≡ state)) ⊎ ((entry : Entry) × Adds rules state line entry
    × (next ≡ rules.after state entry))

-- these lines, one after another, lead from a state to the last
abbrev pub AllLead : {Entry State : Type 0} → LineRules Entry State → State → List (List ℕ) → State → Type 0
AllLead rules state [] last = last ≡ state
AllLead {Entry} {State} rules state (line ∷ more) last =
    (next : State) × Leads rules state line next × AllLead rules next more last

-- the first bad line: those before it lead on from the start, and it may not stand after them; its number counts from 1
pub record IsFirstBad {Entry State : Type 0} (rules : LineRules Entry State) (start : State) (all : List (List ℕ))
    (number : ℕ) : Type 0 where
  pub before : List (List ℕ)
  pub line : List ℕ
  pub after : List (List ℕ)
  pub is : all ≡ before ++ line ∷ after
  pub state : State
  pub good : AllLead rules start before state
  pub bad : (next : State) → ¬ Leads rules state line next
  pub counted : number ≡ length before + 1
