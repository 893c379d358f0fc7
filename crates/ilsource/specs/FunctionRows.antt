-- Worked functions, over variables and functions with numbers for names. Each variable is a number from 0 to 254 or
-- from 0 to 127.
use Rattle.std.specs.Prelude.{◌≡◌, ℕ, pos, false, true, List, [], ◌∷◌, Option, Some, None}
use Rattle.iltypes.specs.declared.range.Range.{Range}
use Rattle.iltypes.specs.declared.value.IlType.{IlType}
use Rattle.iltypes.specs.declared.value.IlType.TheVariants as types
use Rattle.iltypes.specs.declared.value.Value.{Value}
use Rattle.iltypes.specs.declared.value.Value.TheVariants.{Bool as truth}
use Rattle.iltypes.specs.declared.operator.Operator.TheVariants.{Add, Sub, Div, Gt}
use Rattle.iltypes.specs.declared.condition.Condition.TheVariants.{IfTrue}
use Rattle.ilblocks.specs.Stores.{Shape, Store, slot_value, with_slot}
use Rattle.ilsource.specs.declared.operand.Operand.TheVariants.{Name}
use Rattle.ilsource.specs.declared.instruction.Instruction.{Instruction}
use Rattle.ilsource.specs.declared.instruction.Instruction.TheVariants as instructions
use Rattle.ilsource.specs.declared.instruction.Line.{Line}
use Rattle.ilsource.specs.Trees as trees
use Rattle.ilsource.specs.Meaning.{Access}
use Rattle.ilsource.specs.Functions.{FunctionMeaning, Body, body_value, functions_from, given_by}
use Rattle.ilsource.specs.Rows.{same, line, ld, st, number, whole}

abbrev pub to_254 : IlType
to_254 = types.Int (record { lo = pos 0; hi = pos 254; ordered = record { le = tt } })

abbrev pub to_127 : IlType
to_127 = types.Int (record { lo = pos 0; hi = pos 127; ordered = record { le = tt } })

-- the variables of a body, and the functions before it
abbrev pub names_in : List FunctionMeaning → Body ℕ ℕ → Access ℕ Store
names_in known body =
    record {
      read = slot_value;
      write = with_slot (record { buses = 0; slots = body.types; kinds = [] });
      pass = λ s n v. None;
      call = λ s n. None;
      give = given_by known;
    }

abbrev pub meaning : List FunctionMeaning → Body ℕ ℕ → FunctionMeaning
meaning known body = body_value same (names_in known body) body

-- the function of this number gives this value on these arguments, or nothing
abbrev pub Gives : List (Body ℕ ℕ) → ℕ → List Value → Value → Type 0
Gives bodies f arguments value = given_by (functions_from meaning [] bodies) f arguments ≡ Some value

abbrev pub GivesNothing : List (Body ℕ ℕ) → ℕ → List Value → Type 0
GivesNothing bodies f arguments = given_by (functions_from meaning [] bodies) f arguments ≡ None

abbrev pub body : List IlType → ℕ → List Value → List (Line ℕ ℕ) → Body ℕ ℕ
body types inputs initials lines =
    record { types = types; inputs = inputs; initials = initials; lines = lines }

abbrev pub apply : ℕ → Instruction ℕ ℕ
apply n = instructions.Apply Add (Name n)

-- half(v): LD v, DIV 2, ST half
abbrev pub half : Body ℕ ℕ
half =
    body (to_254 ∷ to_127 ∷ []) 1 (whole 0 ∷ [])
    (ld 0 ∷ line (instructions.Apply Div (number 2)) ∷ st 1 ∷ [])

-- quarter(v), where half is the function of this number: LD v, half, half, ST quarter
abbrev pub quarter : ℕ → Body ℕ ℕ
quarter f =
    body (to_254 ∷ to_127 ∷ []) 1 (whole 0 ∷ [])
    (ld 0 ∷ line (instructions.Invoke f []) ∷ line (instructions.Invoke f []) ∷ st 1 ∷ [])

-- difference(a, b): LD a, SUB b, ST difference
abbrev pub difference : Body ℕ ℕ
difference =
    body (to_254 ∷ to_254 ∷ to_254 ∷ []) 2 (whole 0 ∷ [])
    (ld 0 ∷ line (instructions.Apply Sub (Name 1)) ∷ st 2 ∷ [])

-- counted(v), with VAR x := 5: LD x, ADD v, ST x, ST counted
abbrev pub counted : Body ℕ ℕ
counted =
    body (to_254 ∷ to_254 ∷ to_254 ∷ []) 1 (whole 0 ∷ whole 5 ∷ [])
    (ld 2 ∷ line (apply 0) ∷ st 2 ∷ st 1 ∷ [])

-- twice(v), where counted is function 0: LD v, counted, LD v, counted, ST twice
abbrev pub twice : Body ℕ ℕ
twice =
    body (to_254 ∷ to_254 ∷ []) 1 (whole 0 ∷ [])
    (ld 0 ∷ line (instructions.Invoke 0 []) ∷ ld 0 ∷ line (instructions.Invoke 0 []) ∷ st 1 ∷ [])

-- clipped(v), whose result begins with 7: LD v, GT 100, RETC, LD v, ST clipped
abbrev pub clipped : Body ℕ ℕ
clipped =
    body (to_254 ∷ to_127 ∷ []) 1 (whole 7 ∷ [])
    (ld 0 ∷ line (instructions.Apply Gt (number 100)) ∷ line (instructions.Return IfTrue) ∷ ld 0 ∷ st 1 ∷ [])

-- nested(v), where difference is function 0: LD v, SUB( v, difference 3, ), ST nested
abbrev pub nested : Body ℕ ℕ
nested =
    body (to_254 ∷ to_127 ∷ []) 1 (whole 0 ∷ [])
    (ld 0
    ∷ line (instructions.Deferred Sub (trees.Call (trees.Load 0 false (Name 0)) 0 0 (number 3 ∷ [])) 0)
    ∷ st 1 ∷ [])

-- resultless(v), where half is function 0: half, ST resultless, with no current result
abbrev pub resultless : Body ℕ ℕ
resultless =
    body (to_254 ∷ to_127 ∷ []) 1 (whole 0 ∷ []) (line (instructions.Invoke 0 []) ∷ st 1 ∷ [])
