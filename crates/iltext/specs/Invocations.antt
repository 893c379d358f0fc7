-- What follows the name of a function that is called (IEC 61131-3, 3.2.3, with this project's profile), as items over
-- tokens. The current result is the first argument, and the operands are the others.
use Rattle.std.specs.Prelude.{List, [], ◌∷◌, unwrap_or}
use Rattle.ilsource.specs.declared.operand.Operand.{Operand}
use Rattle.ilsource.specs.declared.symbol.Symbol.{Symbol}
use Rattle.iltokens.specs.Items.{Item, map, seq, opt, many}
use Rattle.iltokens.specs.declared.lexed.Delimiter.TheVariants as delimiters
use Rattle.iltext.specs.declared.token.Token.{Token}
use Rattle.iltext.specs.Terminals.{delimiter}
use Rattle.iltext.specs.Operands.{operand}

-- "," operand
unfoldable pub next_operand : Item Token (Operand Symbol)
next_operand = map (λ x. x.1) (seq (delimiter delimiters.Comma) operand)

unfoldable pub more_operands : Item Token (List (Operand Symbol))
more_operands = many next_operand

-- operand {"," operand}
unfoldable pub some_operands : Item Token (List (Operand Symbol))
some_operands = map (λ x. x.0 ∷ x.1) (seq operand more_operands)

-- [operand {"," operand}]
unfoldable pub handed : Item Token (List (Operand Symbol))
handed = map (λ os. unwrap_or os []) (opt some_operands)
