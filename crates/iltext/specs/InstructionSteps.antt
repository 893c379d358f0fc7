-- The pieces that an instruction in parentheses adds, and when parentheses are opened there.
use Rattle.std.specs.Prelude.{ℕ, zero, suc, Bool, false, ◌&&◌, List, [], ◌∷◌, ◌++◌, Option, Some}
use Rattle.iltypes.specs.declared.operator.Operator.{Operator}
use Rattle.iltypes.specs.declared.operator.Operator.TheVariants.{Min, Max}
use Rattle.ilsource.specs.declared.instruction.Instruction.TheVariants as instructions
use Rattle.ilsource.specs.declared.nested.Action.TheVariants as actions
use Rattle.ilsource.specs.declared.nested.Piece.{Piece}
use Rattle.ilsource.specs.Trees.{piece, pieces_of, call_pieces}
use Rattle.iltypes.specs.Operators.{may_defer}
use Rattle.iltokens.specs.Items.{begins}
use Rattle.ilsource.specs.declared.symbol.Symbol.{Symbol}
use Rattle.iltokens.specs.declared.lexed.Delimiter.TheVariants as delimiters
use Rattle.iltext.specs.declared.token.Token.{Token}
use Rattle.iltext.specs.Terminals.{delimiter}
use Rattle.iltext.specs.Instructions.{TextInstruction, TextLine}

abbrev pub pieces_at : ℕ → Option TextInstruction → List (Piece Symbol)
pieces_at at (Some (instructions.Load negated o)) = piece at (actions.Load negated o) ∷ []
pieces_at at (Some (instructions.Apply operator o)) = piece at (actions.Apply operator o) ∷ []
pieces_at at (Some (instructions.Deferred operator u close)) =
    piece at (actions.Open operator) ∷ (pieces_of u ++ piece close actions.Close ∷ [])
pieces_at at (Some (instructions.Transform function)) = piece at (actions.Transform function) ∷ []
pieces_at at (Some (instructions.Limit low high)) =
    piece at (actions.Apply Max low) ∷ piece at (actions.Apply Min high) ∷ []
pieces_at at (Some (instructions.Invoke function os)) = call_pieces at function os
pieces_at at _ = []

abbrev pub pieces_in : TextLine → List (Piece Symbol)
pieces_in line = pieces_at line.at line.instruction

-- whether `(` stands after an operator that may be deferred, where this many more may be opened
abbrev pub may_open : ℕ → Operator → List Token → Bool
may_open zero operator ts = false
may_open (suc more) operator ts = may_defer operator && begins (delimiter delimiters.Open) ts
