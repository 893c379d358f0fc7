-- Files of kept values (profile): lines of words. The first says when the values were kept; each of the next gives the
-- name of a variable and its value, as they are printed; then it says how many these are; and the last gives the check
-- sum of all lines before it, so that a file of which a part was lost or changed is none. Files of version 1 say
-- neither when they were kept nor a check sum; the digest of a text in their second line decides nothing.
use Rattle.std.specs.Prelude.{◌≡◌, ℕ, ℤ, pos, neg_ℤ, ◌==◌, List, [], ◌∷◌, ◌++◌, length, codes, bytes_eq}
use Rattle.std.specs.Prelude.{Bool, true, false, ⊤}
use Rattle.std.specs.Prelude.{Option, Some, None, is_some, option_map, option_and_then, ◌&&◌, if◌then◌else◌}
use Rattle.std.specs.List.{list_any}
use Rattle.std.specs.Fmt.{decimal}
use Rattle.iltypes.specs.declared.value.Value.{Value}
use Rattle.iltypes.specs.declared.value.Value.TheVariants as values
use Rattle.wordlines.specs.LineFiles.{LeadTo}
use Rattle.wordlines.specs.LineRules.{LineRules}
use Rattle.wordlines.specs.WordLines.{number_upto}
use Rattle.livekeep.specs.CheckSums.{sum_of}
use Rattle.livekeep.specs.declared.kept_at.KeptAt.{KeptAt}
use Rattle.livekeep.specs.declared.stage.Stage.{Stage}
use Rattle.livekeep.specs.declared.stage.Stage.TheVariants as stages

-- the value that a variable had, by the variable's name
pub record KeptEntry : Type 0 where
  pub name : List ℕ
  pub value : Value

abbrev pub entry_of : List ℕ → Value → KeptEntry
entry_of name value = record { name = name; value = value }

-- what a file keeps: the values, and since version 2 when they were kept
pub record KeptState : Type 0 where
  pub at : Option KeptAt
  pub values : List KeptEntry

abbrev pub state_of : Option KeptAt → List KeptEntry → KeptState
state_of at values = record { at = at; values = values }

-- what a line says: the head, with when the values were kept since version 2; the digest of a text; a value; how many
-- values there are; the check sum
pub data SaidLine : Type 0 where
  Head : Option KeptAt → SaidLine
  Digest : SaidLine
  Entry : KeptEntry → SaidLine
  End : ℕ → SaidLine
  Sum : ℕ → SaidLine

-- ---- what a line says

abbrev pub most_number : ℕ
most_number = 9223372036854775807

-- a whole number: digits, with `-` (45) before them below 0
abbrev pub whole_number : List ℕ → Option ℤ
whole_number [] = None
whole_number (first ∷ digits) =
    if first == 45 then option_map (λ number. neg_ℤ (pos number)) (number_upto most_number digits)
    else option_map (λ number. pos number) (number_upto most_number (first ∷ digits))

-- a value, as it is printed
abbrev pub value_of : List ℕ → Option Value
value_of word =
    if bytes_eq word (codes "TRUE") then Some (values.Bool true)
    else if bytes_eq word (codes "FALSE") then Some (values.Bool false)
    else option_map (λ number. values.Int number) (whole_number word)

-- `kept by dalictl live`, with which every head begins
abbrev pub is_head : List ℕ → List ℕ → List ℕ → List ℕ → Bool
is_head kept by program command =
    (bytes_eq kept (codes "kept") && bytes_eq by (codes "by"))
    && (bytes_eq program (codes "dalictl") && bytes_eq command (codes "live"))

abbrev pub head_in : List ℕ → List ℕ → List ℕ → List ℕ → Option SaidLine
head_in kept by program command = if is_head kept by program command then Some (Head None) else None

-- `at 1795889471 moment 3600000`: the date in seconds and the moment in milliseconds
abbrev pub kept_at_of : ℕ → ℕ → KeptAt
kept_at_of date moment = record { date = date; moment = moment }

abbrev pub kept_at_in : List ℕ → List ℕ → List ℕ → List ℕ → Option KeptAt
kept_at_in at date word moment =
    if bytes_eq at (codes "at") && bytes_eq word (codes "moment") then
    option_and_then (λ d. option_map (λ m. kept_at_of d m) (number_upto most_number moment))
    (number_upto most_number date) else None

-- both on one line
abbrev pub dated_head_in : Option SaidLine → Option KeptAt → Option SaidLine
dated_head_in (Some head) (Some at) = Some (Head (Some at))
dated_head_in _ _ = None

-- `lamp = 200`
abbrev pub entry_in : List ℕ → List ℕ → List ℕ → Option SaidLine
entry_in name sign word =
    if bytes_eq sign (codes "=") then option_map (λ value. Entry (entry_of name value)) (value_of word) else None

-- `text 1A2B3C4D`, `end 1`, `sum 3237561715`
abbrev pub pair_in : List ℕ → List ℕ → Option SaidLine
pair_in keyword word =
    if bytes_eq keyword (codes "text") then Some Digest
    else if bytes_eq keyword (codes "end") then option_map (λ number. End number) (number_upto most_number word)
    else if bytes_eq keyword (codes "sum") then option_map (λ number. Sum number) (number_upto most_number word)
    else None

abbrev pub said : List (List ℕ) → Option SaidLine
said (keyword ∷ word ∷ []) = pair_in keyword word
said (name ∷ sign ∷ word ∷ []) = entry_in name sign word
said (kept ∷ by ∷ program ∷ command ∷ []) = head_in kept by program command
said (kept ∷ by ∷ program ∷ command ∷ at ∷ date ∷ word ∷ moment ∷ []) =
    dated_head_in (head_in kept by program command) (kept_at_in at date word moment)
said _ = None

-- ---- which line may follow which

-- what the lines so far say
pub record SoFar : Type 0 where
  pub stage : Stage
  pub at : Option KeptAt
  pub values : List KeptEntry
  pub sum : ℕ

abbrev pub nothing : SoFar
nothing = record { stage = stages.Nothing; at = None; values = []; sum = 0 }

-- one of the values is of this name
abbrev pub has_name : List KeptEntry → List ℕ → Bool
has_name values name = list_any (λ entry. bytes_eq entry.name name) values

-- what a head is followed by: the digest in version 1, and values since
abbrev pub after_head : Option KeptAt → Stage
after_head None = stages.Head
after_head (Some at) = stages.Values

-- the head comes first, then values, each under a name of its own, then their number, and at last the check sum; in
-- version 1 the digest stands behind the head, and there is no check sum
abbrev pub Follows : SoFar → SaidLine → Type 0
Follows before (Head at) = before.stage ≡ stages.Nothing
Follows before Digest = before.stage ≡ stages.Head
Follows before (Entry entry) = (before.stage ≡ stages.Values) × (has_name before.values entry.name ≡ false)
Follows before (End number) = (before.stage ≡ stages.Values) × (number ≡ length before.values)
Follows before (Sum number) = (before.stage ≡ stages.End) × (is_some before.at ≡ true)

abbrev pub after : SoFar → SaidLine → SoFar
after before (Head at) = record before { stage = after_head at; at = at }
after before Digest = record before { stage = stages.Values }
after before (Entry entry) = record before { values = before.values ++ entry ∷ [] }
after before (End number) = record before { stage = stages.End }
after before (Sum number) = record before { stage = stages.Sum; sum = number }

abbrev pub kept_rules : LineRules SaidLine SoFar
kept_rules = record { Says = λ words line. said words ≡ Some line; Follows = Follows; after = after }

-- ---- whole files

-- the last line is that of the number of values in version 1, and that of the check sum since
abbrev pub last_stage : Option KeptAt → Stage
last_stage None = stages.End
last_stage (Some at) = stages.Sum

-- all that a file of these values with this check sum says
abbrev pub whole : KeptState → ℕ → SoFar
whole kept sum = record { stage = last_stage kept.at; at = kept.at; values = kept.values; sum = sum }

-- the line of a check sum
abbrev pub sum_line : ℕ → List ℕ
sum_line sum = codes "sum " ++ (decimal sum ++ 10 ∷ [])

-- the bytes end with the line of this check sum, which is that of all bytes before it
pub record IsSummed (bytes : List ℕ) (sum : ℕ) : Type 0 where
  pub body : List ℕ
  pub are : bytes ≡ body ++ sum_line sum
  pub is : sum ≡ sum_of body

-- in version 1 there is no check sum
abbrev pub IsSealed : Option KeptAt → List ℕ → ℕ → Type 0
IsSealed None bytes sum = ⊤
IsSealed (Some at) bytes sum = IsSummed bytes sum

-- the bytes are a file of these values
pub record IsKeptFile (bytes : List ℕ) (kept : KeptState) : Type 0 where
  pub sum : ℕ
  pub lines : LeadTo kept_rules nothing bytes (whole kept sum)
  pub sealed : IsSealed kept.at bytes sum
