-- What stands in parentheses: a tree, over any kind of name (IEC 61131-3, 3.2.2). Each instruction there has its own
-- line of the text, so each has its place.
use Rattle.std.specs.Prelude.{ℕ, ◌+◌, max, Bool, List, [], ◌∷◌, ◌++◌}
use Rattle.iltypes.specs.declared.function.Function.{Function}
use Rattle.iltypes.specs.declared.operator.Operator.{Operator}
use Rattle.ilsource.specs.declared.operand.Operand.{Operand}
use Rattle.ilsource.specs.declared.nested.Action.{Action}
use Rattle.ilsource.specs.declared.nested.Action.TheVariants as actions
use Rattle.ilsource.specs.declared.nested.Piece.{Piece}

-- what is loaded first, and what is then done with it; the truth value says whether the modifier N stands there, the
-- number before is the place of the instruction, and the one at the end that of `)`. A call is of a function on what
-- stands before it and on operands
pub data Tree (N : Type 0) : Type 0 where
  Load : ℕ → Bool → Operand N → Tree N
  Reload : Tree N → ℕ → Bool → Operand N → Tree N
  Apply : Tree N → ℕ → Operator → Operand N → Tree N
  Transform : Tree N → ℕ → Function → Tree N
  Deferred : Tree N → ℕ → Operator → Tree N → ℕ → Tree N
  Call : Tree N → ℕ → N → List (Operand N) → Tree N

abbrev pub piece : {N : Type 0} → ℕ → Action N → Piece N
piece at action = record { at = at; action = action }

-- the operands of a call at this place, each given to an input of the function: from the one of this number on
abbrev pub give_pieces : {N : Type 0} → ℕ → N → ℕ → List (Operand N) → List (Piece N)
give_pieces at f number [] = []
give_pieces at f number (o ∷ os) = piece at (actions.Give f number o) ∷ give_pieces at f (number + 1) os

-- a call: what stands before it is handed to the first input, number 0, each operand is given to an input after it, and
-- the function is invoked
abbrev pub call_pieces : {N : Type 0} → ℕ → N → List (Operand N) → List (Piece N)
call_pieces at f os = piece at (actions.Hand f) ∷ (give_pieces at f 1 os ++ piece at (actions.Invoke f) ∷ [])

-- the tree as it is written, a word of code each
abbrev pub pieces_of : {N : Type 0} → Tree N → List (Piece N)
pieces_of (Load at negated o) = piece at (actions.Load negated o) ∷ []
pieces_of (Reload t at negated o) = pieces_of t ++ piece at (actions.Load negated o) ∷ []
pieces_of (Apply t at operator o) = pieces_of t ++ piece at (actions.Apply operator o) ∷ []
pieces_of (Transform t at function) = pieces_of t ++ piece at (actions.Transform function) ∷ []
pieces_of (Deferred t at operator u close) =
    pieces_of t ++ (piece at (actions.Open operator) ∷ (pieces_of u ++ piece close actions.Close ∷ []))
pieces_of (Call t at f os) = pieces_of t ++ call_pieces at f os

-- how many parentheses are open at once in the tree
abbrev pub depth : {N : Type 0} → Tree N → ℕ
depth (Load at negated o) = 0
depth (Reload t at negated o) = depth t
depth (Apply t at operator o) = depth t
depth (Transform t at function) = depth t
depth (Deferred t at operator u close) = max (depth t) (depth u + 1)
depth (Call t at f os) = depth t
