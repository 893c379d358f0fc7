-- What follows CAL, CALC and CALCN (IEC 61131-3, 3.2.3, with this project's profile), as items over tokens.
use Rattle.std.specs.Prelude.{List, [], ◌∷◌, Option, Some, None}
use Rattle.ilsource.specs.declared.arguments.Argument.{Argument}
use Rattle.ilsource.specs.declared.operand.Operand.{Operand}
use Rattle.iltokens.specs.Items.{Item, map, seq, select, opt, many}
use Rattle.ilsource.specs.declared.name.Name.{Name}
use Rattle.ilsource.specs.declared.symbol.Symbol.{Symbol}
use Rattle.ilsource.specs.declared.symbol.Symbol.TheVariants as symbols
use Rattle.iltokens.specs.declared.lexed.Delimiter.TheVariants as delimiters
use Rattle.iltext.specs.declared.token.Token.{Token}
use Rattle.iltext.specs.Terminals.{delimiter, name, spaced}
use Rattle.iltext.specs.Operands.{port, spaced_operand}

-- the argument for a port of the block instance
abbrev pub argument_of : Name → Name → Operand Symbol → Argument Symbol
argument_of block port operand = record { port = symbols.Port block port; operand = operand }

-- port ":=" operand
unfoldable pub argument : Name → Item Token (Argument Symbol)
argument block =
    map (λ x. argument_of block x.0 x.1.1)
    (seq (spaced port) (seq (spaced (delimiter delimiters.Assign)) spaced_operand))

-- "," argument
unfoldable pub next_argument : Name → Item Token (Argument Symbol)
next_argument block = map (λ x. x.1) (seq (spaced (delimiter delimiters.Comma)) (argument block))

unfoldable pub more_arguments : Name → Item Token (List (Argument Symbol))
more_arguments block = many (next_argument block)

-- argument {"," argument}
unfoldable pub arguments : Name → Item Token (List (Argument Symbol))
arguments block = map (λ x. x.0 ∷ x.1) (seq (argument block) (more_arguments block))

-- "(" arguments ")"
unfoldable pub passed : Name → Item Token (List (Argument Symbol))
passed block =
    map (λ x. x.1.0)
    (seq (spaced (delimiter delimiters.Open)) (seq (arguments block) (delimiter delimiters.Close)))

-- a block instance, and what is passed to it: nothing, where no parentheses are written
abbrev pub called : Name → Option (List (Argument Symbol)) → Name × List (Argument Symbol)
called block None = (block, [])
called block (Some xs) = (block, xs)

-- name ["(" argument {"," argument} ")"]
unfoldable pub call : Item Token (Name × List (Argument Symbol))
call = select name (λ block. map (called block) (opt (passed block)))
