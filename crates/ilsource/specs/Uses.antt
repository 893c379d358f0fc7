-- What lines use: each operand, each variable that is stored to, set, reset or called, and each function that is
-- invoked, in the order of the text. In a call the instance stands before its arguments, and the port of an argument
-- before its operand; a function stands before its operands.
use Rattle.std.specs.Prelude.{ℕ, List, [], ◌∷◌, map, flat_map}
use Rattle.std.specs.Option.{option_map_or}
use Rattle.ilsource.specs.declared.arguments.Argument.{Argument}
use Rattle.ilsource.specs.declared.operand.Operand.{Operand}
use Rattle.ilsource.specs.declared.operand.Operand.TheVariants.{Name}
use Rattle.ilsource.specs.declared.instruction.Instruction.{Instruction}
use Rattle.ilsource.specs.declared.instruction.Instruction.TheVariants as instructions
use Rattle.ilsource.specs.declared.instruction.Line.{Line}
use Rattle.ilsource.specs.declared.nested.Action.{Action}
use Rattle.ilsource.specs.declared.nested.Action.TheVariants as actions
use Rattle.ilsource.specs.declared.nested.Piece.{Piece}
use Rattle.ilsource.specs.declared.uses.Purpose.{Purpose}
use Rattle.ilsource.specs.declared.uses.Purpose.TheVariants as purposes
use Rattle.ilsource.specs.declared.uses.Use.{Use}
use Rattle.ilsource.specs.Trees.{pieces_of}

-- an operand that the instruction at this place uses, and what for
abbrev pub use_at : {N : Type 0} → ℕ → Purpose → Operand N → Use N
use_at at purpose o = record { at = at; purpose = purpose; operand = o }

-- an operand that is read, a variable that is written, and a function that is invoked
abbrev pub read_at : {N : Type 0} → ℕ → Operand N → Use N
read_at at o = use_at at purposes.Read o

abbrev pub write_at : {N : Type 0} → ℕ → N → Use N
write_at at n = use_at at purposes.Write (Name n)

abbrev pub invoke_at : {N : Type 0} → ℕ → N → Use N
invoke_at at f = use_at at purposes.Invoke (Name f)

abbrev pub uses_of_action : {N : Type 0} → ℕ → Action N → List (Use N)
uses_of_action at (actions.Load negated o) = read_at at o ∷ []
uses_of_action at (actions.Apply operator o) = read_at at o ∷ []
uses_of_action at (actions.Hand f) = invoke_at at f ∷ []
uses_of_action at (actions.Give f number o) = read_at at o ∷ []
uses_of_action at _ = []

abbrev pub uses_of_piece : {N : Type 0} → Piece N → List (Use N)
uses_of_piece p = uses_of_action p.at p.action

abbrev pub uses_of_argument : {N : Type 0} → ℕ → Argument N → List (Use N)
uses_of_argument at x = use_at at purposes.Pass (Name x.port) ∷ read_at at x.operand ∷ []

-- what an instruction at this place uses
abbrev pub uses_of : {N L : Type 0} → ℕ → Instruction N L → List (Use N)
uses_of at (instructions.Load negated o) = read_at at o ∷ []
uses_of at (instructions.Apply operator o) = read_at at o ∷ []
uses_of at (instructions.Deferred operator t close) = flat_map uses_of_piece (pieces_of t)
uses_of at (instructions.Transform function) = []
uses_of at (instructions.Limit low high) = read_at at low ∷ read_at at high ∷ []
uses_of at (instructions.Store negated n) = write_at at n ∷ []
uses_of at (instructions.Set n) = write_at at n ∷ []
uses_of at (instructions.Reset n) = write_at at n ∷ []
uses_of at (instructions.Jump condition l) = []
uses_of at (instructions.Return condition) = []
uses_of at (instructions.Call condition n xs) =
    use_at at purposes.Call (Name n) ∷ flat_map (uses_of_argument at) xs
uses_of at (instructions.Invoke f os) = invoke_at at f ∷ map (read_at at) os

abbrev pub uses_in : {N L : Type 0} → Line N L → List (Use N)
uses_in line = option_map_or (uses_of line.at) line.instruction []
