-- Worked programs, over variables with numbers for names. Each is a truth value or a number from 0 to 254, and a call
-- makes the variable TRUE that it names.
use Rattle.std.specs.Prelude.{◌≡◌, ℕ, ◌==◌, pos, int_le, Bool, true, false, ◌&&◌, if◌then◌else◌}
use Rattle.std.specs.Prelude.{List, [], ◌∷◌, ◌++◌, Some, None}
use Rattle.std.specs.Prelude.{slice_get, slice_set}
use Rattle.iltypes.specs.declared.value.Value.{Value}
use Rattle.iltypes.specs.declared.value.Value.TheVariants.{Bool as truth, Int}
use Rattle.iltypes.specs.declared.operator.Operator.TheVariants.{Add, Sub, Div, Eq, Min}
use Rattle.ilsource.specs.declared.operand.Operand.{Operand}
use Rattle.ilsource.specs.declared.operand.Operand.TheVariants.{Name, Constant}
use Rattle.iltypes.specs.declared.condition.Condition.TheVariants.{Always, IfTrue}
use Rattle.iltypes.specs.declared.condition.Condition.{Condition}
use Rattle.ilsource.specs.declared.instruction.Instruction.{Instruction}
use Rattle.ilsource.specs.declared.instruction.Instruction.TheVariants as instructions
use Rattle.ilsource.specs.declared.instruction.Line.{Line}
use Rattle.ilsource.specs.declared.uses.Use.{Use}
use Rattle.ilsource.specs.Trees as trees
use Rattle.ilsource.specs.Meaning.{Access, On}
use Rattle.ilsource.specs.Passes.{passes, scan}
use Rattle.ilsource.specs.Words.{places_in}
use Rattle.ilsource.specs.Uses.{uses_in}

abbrev pub allowed : Value → Bool
allowed (truth b) = true
allowed (Int z) = int_le (pos 0) z && int_le z (pos 254)

abbrev pub variables : Access ℕ (List Value)
variables =
    record {
      read = λ s n. slice_get s n;
      write = λ s n v. if allowed v then Some (slice_set s n v) else None;
      pass = λ s n v. if allowed v then Some (slice_set s n v) else None;
      call = λ s n. Some (slice_set s n (truth true));
      give = λ n vs. None;
    }

abbrev pub same : ℕ → ℕ → Bool
same l m = m == l

abbrev pub line : Instruction ℕ ℕ → Line ℕ ℕ
line i = record { at = 0; label = None; instruction = Some i }

abbrev pub marked : ℕ → Line ℕ ℕ
marked l = record { at = 0; label = Some l; instruction = None }

abbrev pub ld : ℕ → Line ℕ ℕ
ld n = line (instructions.Load false (Name n))

abbrev pub st : ℕ → Line ℕ ℕ
st n = line (instructions.Store false n)

abbrev pub whole : ℕ → Value
whole n = Int (pos n)

abbrev pub number : ℕ → Operand ℕ
number n = Constant (whole n)

-- LD x, ADD 10, MIN 254, ST x; and the same without MIN
abbrev pub sum : List (Line ℕ ℕ)
sum = ld 0 ∷ line (instructions.Apply Add (number 10)) ∷ line (instructions.Apply Min (number 254)) ∷ st 0 ∷ []

abbrev pub sum_unbounded : List (Line ℕ ℕ)
sum_unbounded = ld 0 ∷ line (instructions.Apply Add (number 10)) ∷ st 0 ∷ []

-- LD n, EQ 0, JMPC skip, LD 100, DIV n, ST q, skip:
abbrev pub guarded : List (Line ℕ ℕ)
guarded =
    ld 0 ∷ line (instructions.Apply Eq (number 0)) ∷ line (instructions.Jump IfTrue 7)
    ∷ line (instructions.Load false (number 100)) ∷ line (instructions.Apply Div (Name 0)) ∷ st 1 ∷ marked 7 ∷ []

-- up: LD a, JMP up
abbrev pub backward : List (Line ℕ ℕ)
backward = marked 7 ∷ ld 0 ∷ line (instructions.Jump Always 7) ∷ []

-- SUB( b, SUB c, ), at 20, 28 and 34
abbrev pub difference : Instruction ℕ ℕ
difference = instructions.Deferred Sub (trees.Apply (trees.Load 20 false (Name 1)) 28 Sub (Name 2)) 34

-- LD a, SUB( b, SUB c, ), ST a
abbrev pub nested : List (Line ℕ ℕ)
nested = ld 0 ∷ line difference ∷ st 0 ∷ []

-- LIMIT 3, b
abbrev pub limit : Instruction ℕ ℕ
limit = instructions.Limit (number 3) (Name 1)

-- LD a, LIMIT 3, 254, ST a
abbrev pub limited : List (Line ℕ ℕ)
limited = ld 0 ∷ line (instructions.Limit (number 3) (number 254)) ∷ st 0 ∷ []

-- LD a, S b, R c, STN a
abbrev pub sets : List (Line ℕ ℕ)
sets = ld 0 ∷ line (instructions.Set 1) ∷ line (instructions.Reset 2) ∷ line (instructions.Store true 0) ∷ []

-- LD a, RETC, LD TRUE, ST a
abbrev pub returning : List (Line ℕ ℕ)
returning =
    ld 0 ∷ line (instructions.Return IfTrue) ∷ line (instructions.Load false (Constant (truth true))) ∷ st 0 ∷ []

-- CAL block(port := 5) with a condition; after LD a; and then ST d
abbrev pub five_to_block : Condition → Instruction ℕ ℕ
five_to_block condition = instructions.Call condition 1 (record { port = 2; operand = number 5 } ∷ [])

abbrev pub call : Condition → List (Line ℕ ℕ)
call condition = ld 0 ∷ line (five_to_block condition) ∷ []

abbrev pub call_and_store : Condition → List (Line ℕ ℕ)
call_and_store condition = call condition ++ st 3 ∷ []

-- the variables a to d of a call, before it, where the last is this truth value
abbrev pub before_call : Bool → List Value
before_call d = truth true ∷ truth false ∷ whole 0 ∷ truth d ∷ []

-- from these values the program ends with those
abbrev pub Ends : List (Line ℕ ℕ) → List Value → List Value → Type 0
Ends lines from to = passes same variables lines On None from ≡ Some to

-- from these values the program has no meaning
abbrev pub IsStuck : List (Line ℕ ℕ) → List Value → Type 0
IsStuck lines from = passes same variables lines On None from ≡ None

-- the programs, one after another
abbrev pub EndInTurn : List (List (Line ℕ ℕ)) → List Value → List Value → Type 0
EndInTurn programs from to = scan same variables programs from ≡ Some to

abbrev pub AreStuck : List (List (Line ℕ ℕ)) → List Value → Type 0
AreStuck programs from = scan same variables programs from ≡ None

-- the instruction at 20 has its words at these places
abbrev pub Places : Instruction ℕ ℕ → List ℕ → Type 0
Places i places = places_in (record { at = 20; label = Some 7; instruction = Some i }) ≡ places

-- a label has no words and uses nothing
abbrev pub LabelIsEmpty : Type 0
LabelIsEmpty = (places_in (marked 7) ≡ []) × (uses_in (marked 7) ≡ [])

-- the instruction at 20 uses these operands
abbrev pub Uses : Instruction ℕ ℕ → List (Use ℕ) → Type 0
Uses i uses = uses_in (record { at = 20; label = None; instruction = Some i }) ≡ uses
