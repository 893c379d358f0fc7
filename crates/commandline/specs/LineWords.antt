-- The words that name the lines of a building's buses, `B=PATH` or `B=FROM,TO`, and one line, `PATH` or `FROM,TO`
-- (profile).
use Rattle.std.specs.Prelude.{◌≡◌, ◌⊎◌, ℕ, ◌<◌, ◌-◌, List, ◌∷◌, ◌++◌, Option, Some, None, IfSome, length, option_map}
use Rattle.std.specs.List.{AllPairs, AllZip, Any, Contains}
use Rattle.clap.specs.Words.{Text}
use Rattle.limits.specs.Limits.{most_buses}
use Rattle.wordlines.specs.WordLines.{number_upto}
use Rattle.commandoptions.specs.declared.line_word.LineWord.{LineWord}
use Rattle.commandline.specs.declared.line_words.LineWordFault.{LineWordFault}
use Rattle.commandline.specs.declared.line_words.LineWordFault.TheVariants.{Again, NoLine, Shared}

-- `,` (44), which stands between two paths, and `=` (61), which stands before them
abbrev pub comma : ℕ
comma = 44

abbrev pub equals_sign : ℕ
equals_sign = 61

-- a text that can be a path: it is not empty, and has no comma
abbrev pub IsPath : Text → Type 0
IsPath text = (0 < length text) × ¬ Contains text comma

-- two paths with a comma between, or one
abbrev pub between_comma : Text → Option Text → Text
between_comma from None = from
between_comma from (Some to) = from ++ comma ∷ to

-- the text is the path that is read, and behind a comma the one that is written where that is another one
pub record ArePaths (text from : Text) (to : Option Text) : Type 0 where
  pub spelled : text ≡ between_comma from to
  pub is_from : IsPath from
  pub is_to : IfSome to IsPath

-- the word names the line: the bus, which is below 64, in decimal digits, `=`, and the paths
pub record IsLineWord (word : Text) (line : LineWord) : Type 0 where
  pub digits : Text
  pub paths : Text
  pub spelled : word ≡ digits ++ equals_sign ∷ paths
  pub bus : number_upto (most_buses - 1) digits ≡ Some line.bus
  pub are_paths : ArePaths paths line.from.now (option_map (λ path. path.now) line.to)

-- the path is the one of the line that is read, or the one that is written where that is another one
abbrev pub HasPath : LineWord → Text → Type 0
HasPath line path = (line.from.now ≡ path) ⊎ (option_map (λ to. to.now) line.to ≡ Some path)

-- a path is of both lines, in the same spelling
abbrev pub SharePath : LineWord → LineWord → Type 0
SharePath one other = (path : Text) × HasPath one path × HasPath other path

-- the words name the lines, each one its own, no two lines are of one bus, and no two share a path
pub record AreLines (words : List Text) (lines : List LineWord) : Type 0 where
  pub each : AllZip IsLineWord words lines
  pub apart : AllPairs (λ one other. ¬ (one.bus ≡ other.bus)) lines
  pub unshared : AllPairs (λ one other. ¬ SharePath one other) lines

-- the word that is at fault
abbrev pub word_of : LineWordFault → Text
word_of (NoLine word) = word.now
word_of (Again word) = word.now
word_of (Shared word) = word.now

-- after the words of these lines the word names no line, or one of a bus that one of these is of, or else one that
-- shares a path with one of these
abbrev pub IsFaultAfter : List LineWord → LineWordFault → Type 0
IsFaultAfter lines (NoLine word) = (line : LineWord) → ¬ IsLineWord word.now line
IsFaultAfter lines (Again word) =
    (line : LineWord) × IsLineWord word.now line × Any (λ other. other.bus ≡ line.bus) lines
IsFaultAfter lines (Shared word) =
    (line : LineWord) × IsLineWord word.now line × ¬ Any (λ other. other.bus ≡ line.bus) lines
    × Any (λ other. SharePath other line) lines

-- the fault is that of the first word that has one
pub record IsFirstFault (words : List Text) (fault : LineWordFault) : Type 0 where
  pub before : List Text
  pub after : List Text
  pub lines : List LineWord
  pub place : words ≡ before ++ word_of fault ∷ after
  pub taken : AreLines before lines
  pub is_fault : IsFaultAfter lines fault

-- the fault of a word that is neither a path nor two
abbrev pub IsNoPath : Text → LineWordFault → Type 0
IsNoPath text (NoLine word) = (word.now ≡ text) × ((from : Text) (to : Option Text) → ¬ ArePaths text from to)
IsNoPath text (Again word) = ⊥
IsNoPath text (Shared word) = ⊥
