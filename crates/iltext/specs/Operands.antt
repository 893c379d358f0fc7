-- What instructions name, and their operands (IEC 61131-3, 2.4.1.1 and 3.2), as items over tokens.
use Rattle.std.specs.Prelude.{pos, Option, Some, None, true, false}
use Rattle.iltokens.specs.Items.{Item, one, map, seq, opt, alt}
use Rattle.ilsource.specs.declared.name.Name.{Name}
use Rattle.ilsource.specs.declared.symbol.Symbol.{Symbol}
use Rattle.ilsource.specs.declared.symbol.Symbol.TheVariants as symbols
use Rattle.ilsource.specs.declared.operand.Operand.{Operand}
use Rattle.ilsource.specs.declared.operand.Operand.TheVariants as operands
use Rattle.iltypes.specs.declared.value.Value.{Value}
use Rattle.iltypes.specs.declared.value.Value.TheVariants as values
use Rattle.iltokens.specs.declared.keyword.Keyword.{Keyword}
use Rattle.iltokens.specs.declared.keyword.Keyword.TheVariants as words
use Rattle.iltokens.specs.declared.lexed.Delimiter.TheVariants as delimiters
use Rattle.iltokens.specs.declared.lexed.What.TheVariants as whats
use Rattle.iltext.specs.declared.token.TokenKind.{TokenKind}
use Rattle.iltext.specs.declared.token.TokenKind.TheVariants as kinds
use Rattle.iltext.specs.declared.token.Token.{Token}
use Rattle.iltext.specs.Terminals.{delimiter, name, spaced}

-- ---- variables and ports

abbrev pub port_at : TokenKind → Token → Option Name
port_at (kinds.Good whats.Name) t = Some (record { from = t.from; to = t.to })
port_at (kinds.Good (whats.Keyword words.R)) t = Some (record { from = t.from; to = t.to })
port_at _ t = None

-- the name of a port: a word that is not reserved, or R
unfoldable pub port : Item Token Name
port = one (λ t. port_at t.kind t)

-- "." port
unfoldable pub dot_port : Item Token Name
dot_port = map (λ x. x.1) (seq (delimiter delimiters.Dot) port)

abbrev pub symbol_of : Name → Option Name → Symbol
symbol_of name None = symbols.Variable name
symbol_of block (Some port) = symbols.Port block port

-- name ["." port]: a variable, or a port of a block instance
unfoldable pub symbol : Item Token Symbol
symbol = map (λ x. symbol_of x.0 x.1) (seq name (opt dot_port))

-- ---- operands

abbrev pub literal_word : Keyword → Option Value
literal_word words.True = Some (values.Bool true)
literal_word words.False = Some (values.Bool false)
literal_word _ = None

abbrev pub literal_at : TokenKind → Option Value
literal_at (kinds.Good (whats.Keyword w)) = literal_word w
literal_at (kinds.Good (whats.Number n)) = Some (values.Int n)
literal_at (kinds.Good (whats.Time n)) = Some (values.Int (pos n))
literal_at _ = None

-- TRUE, FALSE, a number, or a duration, which is the number of its milliseconds
unfoldable pub literal : Item Token Value
literal = one (λ t. literal_at t.kind)

abbrev pub named_or : Item Token Symbol → Item Token Value → Item Token (Operand Symbol)
named_or named value = alt (map operands.Name named) (map operands.Constant value)

-- a variable, a port or a constant
unfoldable pub operand : Item Token (Operand Symbol)
operand = named_or symbol literal

-- ---- the same in the parentheses of a call, where each word and delimiter takes the line ends after it

unfoldable pub spaced_dot_port : Item Token Name
spaced_dot_port = map (λ x. x.1) (seq (spaced (delimiter delimiters.Dot)) (spaced port))

unfoldable pub spaced_symbol : Item Token Symbol
spaced_symbol = map (λ x. symbol_of x.0 x.1) (seq (spaced name) (opt spaced_dot_port))

unfoldable pub spaced_operand : Item Token (Operand Symbol)
spaced_operand = named_or spaced_symbol (spaced literal)
