-- The next token of a text.
use Rattle.std.specs.Prelude.{◌≡◌, ℕ, ◌+◌, ◌<◌, ◌≤◌, List, [], ◌∷◌, ◌++◌, length, drop}
use Rattle.iltokens.specs.declared.lexed.What.{What}
use Rattle.iltokens.specs.declared.lexed.Lexed.{Lexed}
use Rattle.iltokens.specs.declared.lexed.Lexed.TheVariants as lexed
use Rattle.iltokens.specs.declared.lexed.LexicalCause.TheVariants.{NotAscii, BadToken, BadNumber, CommentOpen}
use Rattle.iltokens.specs.Blanks.{AreBlanks, OpensComment, BeginsNoBlank}
use Rattle.iltokens.specs.Longest.{IsWithin, IsLongest, SpellsNone}

-- a token or a fault stands at the place or behind it, within the bytes
abbrev pub IsAhead : Lexed → ℕ → ℕ → Type 0
IsAhead (lexed.Token what from to) at len = (at ≤ from) × (from < to) × (to ≤ len)
IsAhead lexed.End at len = Unit {0}
IsAhead (lexed.Fault cause place) at len = (at ≤ place) × (place ≤ len)

-- Between `at` and the place stand blanks and comments alone, and P holds of what follows.
pub record IsAfterBlanks (bytes : List ℕ) (at place : ℕ) (P : List ℕ → Type 0) : Type 0 where
  pub before : List ℕ
  pub rest : List ℕ
  pub parts : drop at bytes ≡ before ++ rest
  pub blanks : AreBlanks before
  pub here : place ≡ at + length before
  pub ahead : P rest

-- a first byte of which P holds
abbrev pub BeginsWith : (ℕ → Type 0) → List ℕ → Type 0
BeginsWith P [] = ⊥
BeginsWith P (b ∷ bs) = P b

-- a token stands here: the longest, in its limits
abbrev pub TokenStands : What → ℕ → ℕ → List ℕ → Type 0
TokenStands what from to rest =
    (front : List ℕ) × (to ≡ from + length front) × IsLongest rest front what × IsWithin what

-- what stands here is the longest token, outside its limits
abbrev pub OutsideStands : List ℕ → Type 0
OutsideStands rest = (front : List ℕ) × (what : What) × IsLongest rest front what × ¬ IsWithin what

-- Nothing but blanks and comments stands before what is next, and no blank where it stands: the longest token, in its
-- limits; the end of the bytes; or a fault, which is a comment without end, a byte of 80 hex or more, another byte
-- where
-- no token begins, or the longest token, outside its limits.
abbrev pub StandsNext : List ℕ → ℕ → Lexed → Type 0
StandsNext bytes at (lexed.Token what from to) =
    IsAfterBlanks bytes at from (λ rest. BeginsNoBlank rest × TokenStands what from to rest)
StandsNext bytes at lexed.End = IsAfterBlanks bytes at (length bytes) (λ rest. rest ≡ [])
StandsNext bytes at (lexed.Fault CommentOpen place) = IsAfterBlanks bytes at place OpensComment
StandsNext bytes at (lexed.Fault NotAscii place) = IsAfterBlanks bytes at place (BeginsWith (λ b. 128 ≤ b))
StandsNext bytes at (lexed.Fault BadToken place) =
    IsAfterBlanks bytes at place (λ rest. BeginsNoBlank rest × BeginsWith (λ b. b < 128) rest × SpellsNone rest)
StandsNext bytes at (lexed.Fault BadNumber place) =
    IsAfterBlanks bytes at place (λ rest. BeginsNoBlank rest × OutsideStands rest)
