-- Single tokens as items of the grammar, and the line ends after them. Line ends matter only between instructions, so
-- elsewhere each word, name or delimiter takes those that follow it.
use Rattle.std.specs.Prelude.{ℕ, ℤ, List, Option, Some, None, Result, Bool, true, false, if◌then◌else◌}
use denote.Enum.Bare.{sameb}
use Rattle.iltokens.specs.contracts.keyword.Keyword.{the_type as all_words}
use Rattle.iltokens.specs.contracts.lexed.Delimiter.{the_type as all_delimiters}
use Rattle.iltokens.specs.Items.{Item, one, map, seq, many}
use Rattle.iltokens.specs.Stops as stops
use Rattle.ilsource.specs.declared.name.Name.{Name}
use Rattle.ilsource.specs.declared.declaration.Constant.{Constant}
use Rattle.ilsource.specs.declared.declaration.Constant.TheVariants as constants
use Rattle.iltokens.specs.declared.keyword.Keyword.{Keyword}
use Rattle.iltokens.specs.declared.keyword.Keyword.TheVariants as words
use Rattle.iltokens.specs.declared.lexed.Delimiter.{Delimiter}
use Rattle.iltokens.specs.declared.lexed.Delimiter.TheVariants as delimiters
use Rattle.iltext.specs.declared.token.TokenKind.{TokenKind}
use Rattle.iltokens.specs.declared.lexed.What.TheVariants as whats
use Rattle.iltext.specs.declared.token.TokenKind.TheVariants as kinds
use Rattle.iltext.specs.declared.token.Token.{Token}

-- the value of what has none
abbrev pub Seen : Type 0
Seen = Unit {0}

-- whether two reserved words are the same
abbrev pub same_word : Keyword → Keyword → Bool
same_word = sameb all_words

abbrev pub word_at : Keyword → TokenKind → Option Seen
word_at w (kinds.Good (whats.Keyword v)) = if same_word v w then Some tt else None
word_at w _ = None

-- this reserved word
unfoldable pub word : Keyword → Item Token Seen
word w = one (λ t. word_at w t.kind)

-- whether two delimiters are the same
abbrev pub same_delimiter : Delimiter → Delimiter → Bool
same_delimiter = sameb all_delimiters

abbrev pub delimiter_at : Delimiter → TokenKind → Option Seen
delimiter_at m (kinds.Good (whats.Delimiter n)) = if same_delimiter n m then Some tt else None
delimiter_at m _ = None

-- this delimiter
unfoldable pub delimiter : Delimiter → Item Token Seen
delimiter m = one (λ t. delimiter_at m t.kind)

abbrev pub name_at : TokenKind → Token → Option Name
name_at (kinds.Good whats.Name) t = Some (record { from = t.from; to = t.to })
name_at _ t = None

-- a word that is not reserved
unfoldable pub name : Item Token Name
name = one (λ t. name_at t.kind t)

abbrev pub constant_word : Keyword → Option Constant
constant_word words.True = Some (constants.Bool true)
constant_word words.False = Some (constants.Bool false)
constant_word _ = None

abbrev pub constant_at : TokenKind → Option Constant
constant_at (kinds.Good (whats.Keyword w)) = constant_word w
constant_at (kinds.Good (whats.Number n)) = Some (constants.Number n)
constant_at (kinds.Good (whats.Time n)) = Some (constants.Time n)
constant_at _ = None

-- TRUE, FALSE, a number or a duration
unfoldable pub constant : Item Token Constant
constant = one (λ t. constant_at t.kind)

abbrev pub number_at : TokenKind → Option ℤ
number_at (kinds.Good (whats.Number n)) = Some n
number_at _ = None

-- a number
unfoldable pub number : Item Token ℤ
number = one (λ t. number_at t.kind)

abbrev pub closing_at : TokenKind → ℕ → Option ℕ
closing_at (kinds.Good (whats.Delimiter delimiters.Close)) at = Some at
closing_at _ at = None

-- ")", by its place
unfoldable pub closing : Item Token ℕ
closing = one (λ t. closing_at t.kind t.from)

-- any number of line ends
unfoldable pub line_ends : Item Token Seen
line_ends = map (λ x. tt) (many (delimiter delimiters.LineEnd))

-- an item and the line ends after it
abbrev pub spaced : {A : Type 0} → Item Token A → Item Token A
spaced a = map (λ x. x.0) (seq a line_ends)

-- the end of a line, and empty lines
unfoldable pub line_break : Item Token Seen
line_break = spaced (delimiter delimiters.LineEnd)

-- an item, the end of its line, and empty lines
abbrev pub ended : {A : Type 0} → Item Token A → Item Token A
ended a = map (λ x. x.0) (seq a line_break)

-- the end of the tokens; where one is left, reading stops there
abbrev pub end : List Token → Result Seen (List Token)
end ts = stops.ended tt ts
