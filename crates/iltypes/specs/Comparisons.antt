-- The operators that compare (IEC 61131-3, 2.5.1.5.4), and the one that has the opposite outcome on the same numbers.
use Rattle.std.specs.Prelude.{◌≡◌, ℤ, Bool, true, false, IsTrue}
use Rattle.iltypes.specs.declared.value.Value.TheVariants.{Int}
use Rattle.iltypes.specs.Modifiers.{opposite}
use Rattle.iltypes.specs.declared.operator.Operator.{Operator}
use Rattle.iltypes.specs.declared.operator.Operator.TheVariants.{Gt, Ge, Eq, Ne, Le, Lt}
use Rattle.iltypes.specs.Operators.{truth, value_of_operator}

-- the operator gives a truth value of two numbers
abbrev pub compares : Operator → Bool
compares Gt = true
compares Ge = true
compares Eq = true
compares Ne = true
compares Le = true
compares Lt = true
compares _ = false

-- of a comparison the one that holds of two numbers where the first does not
abbrev pub turned : Operator → Operator
turned Gt = Le
turned Ge = Lt
turned Eq = Ne
turned Ne = Eq
turned Le = Gt
turned Lt = Ge
turned operator = operator

-- a comparison gives a truth value of any two numbers
abbrev pub HasOutcome : Operator → Type 0
HasOutcome operator =
    (left right : ℤ) → IsTrue (compares operator)
    → (outcome : Bool) × (value_of_operator operator (Int left) (Int right) ≡ truth outcome)

-- the turned one gives the opposite truth value of the same numbers
abbrev pub HasOppositeOutcome : Operator → Type 0
HasOppositeOutcome operator =
    (left right : ℤ) (outcome : Bool) → IsTrue (compares operator)
    → value_of_operator operator (Int left) (Int right) ≡ truth outcome
    → value_of_operator (turned operator) (Int left) (Int right) ≡ truth (opposite outcome)

-- it is a comparison where the first is one
abbrev pub ComparesTurned : Operator → Type 0
ComparesTurned operator = compares (turned operator) ≡ compares operator

-- turned again it is the first
abbrev pub IsTurnedBack : Operator → Type 0
IsTurnedBack operator = turned (turned operator) ≡ operator
