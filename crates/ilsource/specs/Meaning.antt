-- What a tree is worth and what an instruction does (IEC 61131-3, 3.2), over any kind of name N, label L and store S.
-- There is no value, and nothing is done, at a use of no result, at a store outside a variable's type, at an operator
-- that has no value, and at a function that gives none.
use Rattle.std.specs.Prelude.{Bool, true, false, Option, Some, None, List, [], ◌∷◌}
use Rattle.std.specs.Option.{option_and_then}
use Rattle.iltypes.specs.declared.value.Value.{Value}
use Rattle.iltypes.specs.declared.value.Value.TheVariants as values
use Rattle.iltypes.specs.declared.operator.Operator.TheVariants.{Min, Max}
use Rattle.iltypes.specs.declared.condition.Condition.TheVariants.{IfTrue}
use Rattle.iltypes.specs.Conditions.{holds, chosen}
use Rattle.iltypes.specs.Operators.{both}
use Rattle.iltypes.specs.Functions.{modified, value_of_function}
use Rattle.ilsource.specs.declared.arguments.Argument.{Argument}
use Rattle.ilsource.specs.declared.operand.Operand.{Operand}
use Rattle.ilsource.specs.declared.operand.Operand.TheVariants.{Name, Constant}
use Rattle.ilsource.specs.declared.instruction.Instruction.{Instruction}
use Rattle.ilsource.specs.declared.instruction.Instruction.TheVariants as instructions
use Rattle.ilsource.specs.Trees.{Tree, Load, Reload, Apply, Transform, Deferred, Call}

-- all that is known of names and stores: how a name is read and written, how an argument is stored at a port of the
-- block that is called, what the call leaves, and what a function gives on arguments; each where that is defined, so
-- that a write is of a value in the variable's type
pub record Access (N S : Type 0) : Type 0 where
  pub read : S → N → Option Value
  pub write : S → N → Value → Option S
  pub pass : S → N → Value → Option S
  pub call : S → N → Option S
  pub give : N → List Value → Option Value

abbrev pub operand_value : {N S : Type 0} → Access N S → S → Operand N → Option Value
operand_value a s (Name n) = a.read s n
operand_value a s (Constant v) = Some v

-- LD, LDN
abbrev pub loaded : {N S : Type 0} → Access N S → S → Bool → Operand N → Option Value
loaded a s negated o = option_and_then (modified negated) (operand_value a s o)

-- the second value, where there are both
abbrev pub second : Option Value → Option Value → Option Value
second None o = None
second (Some v) o = o

-- a value before others, where there are all
abbrev pub joined : Option Value → Option (List Value) → Option (List Value)
joined None o = None
joined (Some v) None = None
joined (Some v) (Some vs) = Some (v ∷ vs)

-- the values of operands, where each has one
abbrev pub operand_values : {N S : Type 0} → Access N S → S → List (Operand N) → Option (List Value)
operand_values a s [] = Some []
operand_values a s (o ∷ os) = joined (operand_value a s o) (operand_values a s os)

-- what a function gives: the current result is its first argument, and the operands are the others
abbrev pub given : {N S : Type 0} → Access N S → N → Option Value → Option (List Value) → Option Value
given a f r o = option_and_then (a.give f) (joined r o)

-- the value of a tree, wherever it stands in the text
abbrev pub value : {N S : Type 0} → Access N S → S → Tree N → Option Value
value a s (Load at negated o) = loaded a s negated o
value a s (Reload t at negated o) = second (value a s t) (loaded a s negated o)
value a s (Apply t at operator o) = both operator (value a s t) (operand_value a s o)
value a s (Transform t at function) = option_and_then (value_of_function function) (value a s t)
value a s (Deferred t at operator u close) = both operator (value a s t) (value a s u)
value a s (Call t at f os) = given a f (value a s t) (operand_values a s os)

-- where the run goes on after an instruction: on the next line, on the next line with a label, or nowhere
pub data Way (L : Type 0) : Type 0 where
  On : Way L
  To : L → Way L
  Out : Way L

pub record After (L S : Type 0) : Type 0 where
  pub way : Way L
  pub result : Option Value
  pub store : S

abbrev pub after : {L S : Type 0} → Way L → Option Value → S → Option (After L S)
after way result store = Some (record { way = way; result = result; store = store })

-- on with a new result
abbrev pub gives : {L S : Type 0} → Option Value → S → Option (After L S)
gives None s = None
gives (Some v) s = after On (Some v) s

-- on with a new store and the result that is given
abbrev pub leaves : {L S : Type 0} → Option Value → Option S → Option (After L S)
leaves r None = None
leaves r (Some s) = after On r s

-- the store after the arguments of a call, each stored at its port
abbrev pub passed : {N S : Type 0} → Access N S → List (Argument N) → S → Option S
passed a [] s = Some s
passed a (x ∷ xs) s = option_and_then (passed a xs) (option_and_then (a.pass s x.port) (operand_value a s x.operand))

-- the store after the arguments and the call
abbrev pub called : {N S : Type 0} → Access N S → N → List (Argument N) → S → Option S
called a n xs s = option_and_then (λ t. a.call t n) (passed a xs s)

-- what an instruction does with the current result, or none, and the store; a call that is carried out leaves no result
abbrev pub does : {N L S : Type 0} → Access N S → Instruction N L → Option Value → S → Option (After L S)
does a (instructions.Load negated o) r s = gives (loaded a s negated o) s
does a (instructions.Apply operator o) r s = gives (both operator r (operand_value a s o)) s
does a (instructions.Deferred operator t close) r s = gives (both operator r (value a s t)) s
does a (instructions.Transform function) r s = gives (option_and_then (value_of_function function) r) s
does a (instructions.Limit low high) r s =
    gives (both Min (both Max r (operand_value a s low)) (operand_value a s high)) s
does a (instructions.Store negated n) r s =
    leaves r (option_and_then (a.write s n) (option_and_then (modified negated) r))
does a (instructions.Set n) r s = chosen (holds IfTrue r) (leaves r (a.write s n (values.Bool true))) (after On r s)
does a (instructions.Reset n) r s = chosen (holds IfTrue r) (leaves r (a.write s n (values.Bool false))) (after On r s)
does a (instructions.Jump condition l) r s = chosen (holds condition r) (after (To l) r s) (after On r s)
does a (instructions.Return condition) r s = chosen (holds condition r) (after Out r s) (after On r s)
does a (instructions.Call condition n xs) r s =
    chosen (holds condition r) (leaves None (called a n xs s)) (after On r s)
does a (instructions.Invoke f os) r s = gives (given a f r (operand_values a s os)) s

-- a line without an instruction does nothing
abbrev pub line_does : {N L S : Type 0} → Access N S → Option (Instruction N L) → Option Value → S → Option (After L S)
line_does a None r s = after On r s
line_does a (Some i) r s = does a i r s
