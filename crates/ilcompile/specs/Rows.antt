-- Worked layouts. The text has a line feed at each place, so that what is at place k stands on line k + 1.
use Rattle.std.specs.Prelude.{◌≡◌, ℕ, pos, true, false, List, [], ◌∷◌, map, flat_map, replicate, Some}
use Rattle.std.specs.Prelude.{None}
use Rattle.iltypes.specs.declared.value.IlType.{IlType}
use Rattle.iltypes.specs.declared.value.IlType.TheVariants as types
use Rattle.iltypes.specs.declared.value.Value.{Value}
use Rattle.iltypes.specs.declared.value.Value.TheVariants as values
use Rattle.iltypes.specs.declared.condition.Condition.{Condition}
use Rattle.iltypes.specs.declared.condition.Condition.TheVariants.{Always, IfTrue, IfFalse}
use Rattle.iltypes.specs.declared.operator.Operator.TheVariants.{Add, Div, Mul, Sub, Eq, Min, Max}
use Rattle.ilsource.specs.declared.arguments.Argument.{Argument}
use Rattle.ilsource.specs.declared.operand.Operand.{Operand}
use Rattle.ilsource.specs.declared.operand.Operand.TheVariants.{Name, Constant}
use Rattle.ilsource.specs.declared.instruction.Instruction.{Instruction}
use Rattle.ilsource.specs.declared.instruction.Instruction.TheVariants as instructions
use Rattle.ilsource.specs.declared.instruction.Line.{Line}
use Rattle.ilsource.specs.Trees as trees
use Rattle.ilsource.specs.declared.name.Name.{Name as NameInText}
use Rattle.ilblocks.specs.declared.kind.BlockKind.{BlockKind}
use Rattle.ilblocks.specs.declared.kind.BlockKind.TheVariants as kinds
use Rattle.ilplan.specs.Functions.{PlannedFunction, function_of}
use Rattle.ilplan.specs.declared.activation.Activation.TheVariants.{Cyclic}
use Rattle.ilplan.specs.declared.function.FunctionInput.{FunctionInput}
use Rattle.ilplan.specs.declared.function.FunctionVariable.{FunctionVariable}
use Rattle.ilplan.specs.declared.instance.FunctionBlock.{FunctionBlock}
use Rattle.ilplan.specs.declared.slot.Slot.{Slot}
use Rattle.ilplan.specs.declared.slot.SlotOwner.TheVariants.{Own}
use Rattle.ilplan.specs.declared.place.Place.{Place}
use Rattle.ilplan.specs.declared.place.Place.TheVariants as places
use Rattle.ilplan.specs.Constants.{different_constants}
use Rattle.ilplan.specs.Plans.{PlannedTask, task_of}
use Rattle.ilcode.specs.declared.function.FunctionBody.{FunctionBody}
use Rattle.ilcode.specs.declared.word.WordOperand.TheVariants as operands
use Rattle.ilcode.specs.declared.word.Target.{Target}
use Rattle.ilcode.specs.declared.word.Target.TheVariants as variables
use Rattle.ilcode.specs.declared.word.Word.{Word}
use Rattle.ilcode.specs.declared.word.Word.TheVariants as words
use Rattle.ilcode.specs.Listings.{listing_of}
use Rattle.ilcompile.specs.Layout.{laid_out}

abbrev pub no_name : NameInText
no_name = record { from = 0; to = 0 }

abbrev pub slot : Slot
slot = record { variable = Own no_name no_name; value_type = types.Bool; initial = values.Bool false }

abbrev pub block : BlockKind → FunctionBlock
block kind = record { instance = no_name; name = no_name; kind = kind }

-- a task with these programs, two variables, a block instance TON and one R_TRIG, and the constants
abbrev pub task : List (List (Line Place ℕ)) → List Value → PlannedTask
task programs constants =
    task_of [] (Cyclic 100) 0 (slot ∷ slot ∷ []) (block kinds.Ton ∷ block kinds.RTrig ∷ []) constants
    (map (λ lines. record { name = no_name; lines = lines }) programs)

-- on two buses they are laid out with these constants, starts, words, and a line for each of these
abbrev pub AreLaidOut : List (List (Line Place ℕ)) → List Value → List ℕ → List Word → List ℕ → Type 0
AreLaidOut programs constants starts ws numbers =
    laid_out 2 (replicate 20 10) [] (task programs (different_constants (flat_map (λ lines. lines) programs)))
    ≡ listing_of 2 constants (types.Bool ∷ types.Bool ∷ []) (kinds.Ton ∷ kinds.RTrig ∷ []) starts ws numbers []

abbrev pub truth : Value
truth = values.Bool true

abbrev pub whole : ℕ → Value
whole n = values.Int (pos n)

-- the two variables, which programs load and store to
abbrev pub a : Operand Place
a = Name (places.Slot 0)

abbrev pub b : Operand Place
b = Name (places.Slot 1)

abbrev pub in_a : Target
in_a = variables.Slot 0

abbrev pub in_b : Target
in_b = variables.Slot 1

-- the line of an instruction at a place
abbrev pub line : ℕ → Instruction Place ℕ → Line Place ℕ
line at i = record { at = at; label = None; instruction = Some i }

-- LD, ST
abbrev pub ld : ℕ → Operand Place → Line Place ℕ
ld at o = line at (instructions.Load false o)

abbrev pub st : ℕ → ℕ → Line Place ℕ
st at slot = line at (instructions.Store false (places.Slot slot))

-- LD 3, SUB( a, MUL 2, ), ST b
abbrev pub difference : List (Line Place ℕ)
difference =
    ld 2 (Constant (whole 3))
    ∷ line 3 (instructions.Deferred Sub (trees.Apply (trees.Load 3 false a) 4 Mul (Constant (whole 2))) 5)
    ∷ st 6 1 ∷ []

abbrev pub words_of_difference : List Word
words_of_difference =
    words.Load false (operands.Constant 0) ∷ words.Open Sub ∷ words.Load false (operands.Slot 0)
    ∷ words.Apply Mul (operands.Constant 1) ∷ words.Close ∷ words.Store false in_b ∷ []

-- LD a, LIMIT 0, 254, ST a
abbrev pub limited : List (Line Place ℕ)
limited = ld 2 a ∷ line 3 (instructions.Limit (Constant (whole 0)) (Constant (whole 254))) ∷ st 4 0 ∷ []

abbrev pub words_of_limited : List Word
words_of_limited =
    words.Load false (operands.Slot 0) ∷ words.Apply Max (operands.Constant 0)
    ∷ words.Apply Min (operands.Constant 1) ∷ words.Store false in_a ∷ []

-- LDN TRUE, S a; a program without lines; and LD 1, EQ 1, LD TRUE, STN b
abbrev pub in_turn : List (List (Line Place ℕ))
in_turn =
    (line 2 (instructions.Load true (Constant truth)) ∷ line 3 (instructions.Set (places.Slot 0)) ∷ []) ∷ []
    ∷ (ld 8 (Constant (whole 1)) ∷ line 9 (instructions.Apply Eq (Constant (whole 1))) ∷ ld 10 (Constant truth)
    ∷ line 11 (instructions.Store true (places.Slot 1)) ∷ [])
    ∷ []

abbrev pub words_in_turn : List Word
words_in_turn =
    words.Load true (operands.Constant 0) ∷ words.Set in_a ∷ words.Load false (operands.Constant 1)
    ∷ words.Apply Eq (operands.Constant 1) ∷ words.Load false (operands.Constant 0) ∷ words.Store true in_b ∷ []

-- a jump to a label
abbrev pub jump : ℕ → Condition → ℕ → Line Place ℕ
jump at condition label = line at (instructions.Jump condition label)

-- a label alone on its line
abbrev pub label : ℕ → ℕ → Line Place ℕ
label at l = record { at = at; label = Some l; instruction = None }

-- LD a, JMPC 5, LDN a, JMPCN 5, LD TRUE, 5: ST b
abbrev pub two_jumps : List (Line Place ℕ)
two_jumps =
    ld 2 a ∷ jump 3 IfTrue 5 ∷ line 4 (instructions.Load true a) ∷ jump 5 IfFalse 5
    ∷ ld 6 (Constant truth)
    ∷ record { at = 7; label = Some 5; instruction = Some (instructions.Store false (places.Slot 1)) } ∷ []

abbrev pub words_of_two_jumps : List Word
words_of_two_jumps =
    words.Load false (operands.Slot 0) ∷ words.Jump IfTrue 5 ∷ words.Load true (operands.Slot 0)
    ∷ words.Jump IfFalse 5 ∷ words.Load false (operands.Constant 0) ∷ words.Store false in_b ∷ []

-- LD a, JMPC 6, 6:, 7:, ST b, JMP 8, 8:
abbrev pub labels_alone : List (Line Place ℕ)
labels_alone =
    ld 2 a ∷ jump 3 IfTrue 6 ∷ label 4 6 ∷ label 5 7 ∷ st 6 1 ∷ jump 7 Always 8 ∷ label 8 8 ∷ []

abbrev pub words_of_labels_alone : List Word
words_of_labels_alone =
    words.Load false (operands.Slot 0) ∷ words.Jump IfTrue 2 ∷ words.Store false in_b ∷ words.Jump Always 4 ∷ []

-- LD a, JMPC 9, SUB( a, MUL 2, ), 9: ST b; the first jump passes over all words of the parentheses
abbrev pub over_parentheses : List (Line Place ℕ)
over_parentheses =
    ld 2 a ∷ jump 3 IfTrue 9
    ∷ line 4 (instructions.Deferred Sub (trees.Apply (trees.Load 4 false a) 5 Mul (Constant (whole 2))) 6)
    ∷ record { at = 7; label = Some 9; instruction = Some (instructions.Store false (places.Slot 1)) } ∷ []

abbrev pub words_over_parentheses : List Word
words_over_parentheses =
    words.Load false (operands.Slot 0) ∷ words.Jump IfTrue 6 ∷ words.Open Sub ∷ words.Load false (operands.Slot 0)
    ∷ words.Apply Mul (operands.Constant 0) ∷ words.Close ∷ words.Store false in_b ∷ []

-- LD a, RETC, ST b; and LD b, RETCN, JMP 4, ST a, 4: ST b, RET, ST a
abbrev pub returning : List (List (Line Place ℕ))
returning =
    (ld 2 a ∷ line 3 (instructions.Return IfTrue) ∷ st 4 1 ∷ [])
    ∷ (ld 5 b ∷ line 6 (instructions.Return IfFalse) ∷ jump 7 Always 4 ∷ st 8 0
    ∷ record { at = 9; label = Some 4; instruction = Some (instructions.Store false (places.Slot 1)) }
    ∷ line 10 (instructions.Return Always) ∷ st 11 0 ∷ [])
    ∷ []

abbrev pub words_returning : List Word
words_returning =
    words.Load false (operands.Slot 0) ∷ words.Jump IfTrue 3 ∷ words.Store false in_b
    ∷ words.Load false (operands.Slot 1) ∷ words.Jump IfFalse 10 ∷ words.Jump Always 7 ∷ words.Store false in_a
    ∷ words.Store false in_b ∷ words.Jump Always 10 ∷ words.Store false in_a ∷ []

-- 3: LD a, JMPC 3, JMPC 4; and 4: LD b, JMPCN 3, 3: ST b: a label is looked for in its own program, after the jump
abbrev pub astray : List (List (Line Place ℕ))
astray =
    (record { at = 2; label = Some 3; instruction = Some (instructions.Load false a) }
    ∷ jump 3 IfTrue 3 ∷ jump 4 IfTrue 4 ∷ [])
    ∷ (record { at = 5; label = Some 4; instruction = Some (instructions.Load false b) }
    ∷ jump 6 IfFalse 3
    ∷ record { at = 7; label = Some 3; instruction = Some (instructions.Store false (places.Slot 1)) } ∷ [])
    ∷ []

abbrev pub words_astray : List Word
words_astray =
    words.Load false (operands.Slot 0) ∷ words.Jump IfTrue 0 ∷ words.Jump IfTrue 0
    ∷ words.Load false (operands.Slot 1) ∷ words.Jump IfFalse 5 ∷ words.Store false in_b ∷ []

-- ---- calls of t, which is a TON, and e, which is an R_TRIG

abbrev pub t : Place
t = places.Block 0

abbrev pub e : Place
e = places.Block 1

-- an argument for a port by its number
abbrev pub argument : ℕ → ℕ → Operand Place → Argument Place
argument block port operand = record { port = places.Port block port; operand = operand }

abbrev pub call : ℕ → Condition → Place → List (Argument Place) → Line Place ℕ
call at condition instance arguments = line at (instructions.Call condition instance arguments)

-- LD a, CAL t(IN := a, PT := 500), LD t.Q, ST b, STN e.CLK
abbrev pub calling : List (Line Place ℕ)
calling =
    ld 2 a ∷ call 3 Always t (argument 0 0 a ∷ argument 0 1 (Constant (whole 500)) ∷ [])
    ∷ ld 4 (Name (places.Port 0 2)) ∷ st 5 1 ∷ line 6 (instructions.Store true (places.Port 1 0)) ∷ []

abbrev pub words_calling : List Word
words_calling =
    words.Load false (operands.Slot 0) ∷ words.Pass 0 0 (operands.Slot 0) ∷ words.Pass 1 0 (operands.Constant 0)
    ∷ words.Call 0 ∷ words.Load false (operands.Port 2 0) ∷ words.Store false in_b
    ∷ words.Store true (variables.Port 0 1) ∷ []

-- LD a, CALC e(CLK := t.Q), 4: LD b, CALCN t(); and LD b, CALCN t(PT := 20, IN := TRUE)
abbrev pub calling_if : List (List (Line Place ℕ))
calling_if =
    (ld 2 a ∷ call 3 IfTrue e (argument 1 0 (Name (places.Port 0 2)) ∷ [])
    ∷ record { at = 4; label = Some 4; instruction = Some (instructions.Load false b) } ∷ call 5 IfFalse t [] ∷ [])
    ∷ (ld 6 b ∷ call 7 IfFalse t (argument 0 1 (Constant (whole 20)) ∷ argument 0 0 (Constant truth) ∷ []) ∷ [])
    ∷ []

abbrev pub words_calling_if : List Word
words_calling_if =
    words.Load false (operands.Slot 0) ∷ words.Jump IfFalse 4 ∷ words.Pass 0 1 (operands.Port 2 0) ∷ words.Call 1
    ∷ words.Load false (operands.Slot 1) ∷ words.Jump IfTrue 7 ∷ words.Call 0
    ∷ words.Load false (operands.Slot 1) ∷ words.Jump IfTrue 12 ∷ words.Pass 1 0 (operands.Constant 0)
    ∷ words.Pass 0 0 (operands.Constant 1) ∷ words.Call 0 ∷ []

-- LD a, JMPC 9, CALC t(IN := a, PT := 7), 9: ST b; the first jump passes over all words of the call
abbrev pub over_call : List (Line Place ℕ)
over_call =
    ld 2 a ∷ jump 3 IfTrue 9 ∷ call 4 IfTrue t (argument 0 0 a ∷ argument 0 1 (Constant (whole 7)) ∷ [])
    ∷ record { at = 5; label = Some 9; instruction = Some (instructions.Store false (places.Slot 1)) } ∷ []

abbrev pub words_over_call : List Word
words_over_call =
    words.Load false (operands.Slot 0) ∷ words.Jump IfTrue 6 ∷ words.Jump IfFalse 6
    ∷ words.Pass 0 0 (operands.Slot 0) ∷ words.Pass 1 0 (operands.Constant 0) ∷ words.Call 0
    ∷ words.Store false in_b ∷ []

-- ---- functions

abbrev pub small : IlType
small = types.Int (record { lo = pos 0; hi = pos 100; ordered = record { le = tt } })

abbrev pub large : IlType
large = types.Int (record { lo = pos 0; hi = pos 200; ordered = record { le = tt } })

abbrev pub input : IlType → FunctionInput
input value_type = record { name = no_name; value_type = value_type }

abbrev pub variable : IlType → FunctionVariable
variable value_type = record { name = no_name; value_type = value_type; initial = whole 0 }

abbrev pub invoke : ℕ → ℕ → List (Operand Place) → Line Place ℕ
invoke at number operands = line at (instructions.Invoke (places.Function number) operands)

-- half the input: LD x, DIV 2, ST half
abbrev pub half : PlannedFunction
half =
    function_of no_name 1 (input large ∷ []) (variable small ∷ [])
    (ld 3 (Name (places.Slot 0)) ∷ line 4 (instructions.Apply Div (Constant (whole 2))) ∷ st 5 1 ∷ [])

-- the like of it, which none calls
abbrev pub no_one : PlannedFunction
no_one = function_of no_name 6 (input large ∷ []) (variable large ∷ []) (invoke 7 0 [] ∷ [])

-- half the sum of two inputs: LD x, ADD y, half(), ST mean
abbrev pub mean : PlannedFunction
mean =
    function_of no_name 8 (input small ∷ input large ∷ []) (variable small ∷ [])
    (ld 10 (Name (places.Slot 0)) ∷ line 11 (instructions.Apply Add (Name (places.Slot 1))) ∷ invoke 12 0 []
    ∷ st 13 2 ∷ [])

abbrev pub functions : List PlannedFunction
functions = half ∷ no_one ∷ mean ∷ []

-- LD 5, mean(9), ST b
abbrev pub averaging : List (Line Place ℕ)
averaging = ld 15 (Constant (whole 5)) ∷ invoke 16 2 (Constant (whole 9) ∷ []) ∷ st 17 1 ∷ []

-- the program's words; those of half, which begin at place 5; and those of mean, from place 9 on
abbrev pub words_of_averaging : List Word
words_of_averaging =
    words.Load false (operands.Constant 0) ∷ words.Store false (variables.Slot 4)
    ∷ words.Give (operands.Constant 1) 5 ∷ words.Invoke 1 ∷ words.Store false in_b
    ∷ words.Give (operands.Constant 2) 3 ∷ words.Load false (operands.Slot 2)
    ∷ words.Apply Div (operands.Constant 3) ∷ words.Store false (variables.Slot 3)
    ∷ words.Give (operands.Constant 2) 6 ∷ words.Load false (operands.Slot 4)
    ∷ words.Apply Add (operands.Slot 5) ∷ words.Store false (variables.Slot 2) ∷ words.Invoke 0
    ∷ words.Store false (variables.Slot 6) ∷ []

abbrev pub bodies_of_averaging : List FunctionBody
bodies_of_averaging =
    record { start = 5; first = 2; inputs = 1; slots = 2 } ∷ record { start = 9; first = 4; inputs = 2; slots = 3 } ∷ []

-- the task calls mean, and so it has half, but not the function between them
abbrev pub AveragingIsLaidOut : Type 0
AveragingIsLaidOut =
    let constants = whole 5 ∷ whole 9 ∷ whole 0 ∷ whole 2 ∷ [] in
    laid_out 2 (replicate 20 10) functions (task (averaging ∷ []) constants)
    ≡ listing_of 2 constants
    (types.Bool ∷ types.Bool ∷ large ∷ small ∷ small ∷ large ∷ small ∷ [])
    (kinds.Ton ∷ kinds.RTrig ∷ []) (0 ∷ []) words_of_averaging
    (16 ∷ 17 ∷ 17 ∷ 17 ∷ 18 ∷ 2 ∷ 4 ∷ 5 ∷ 6 ∷ 9 ∷ 11 ∷ 12 ∷ 13 ∷ 13 ∷ 14 ∷ []) bodies_of_averaging
