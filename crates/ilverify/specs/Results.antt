-- What is known after an operator (IEC 61131-3, 3.2.2 and 2.5.1.5), and why one is refused (profile).
use Rattle.std.specs.Prelude.{◌≡◌, pos, IsSome, IsNone, Some}
use Rattle.iltypes.specs.declared.value.Value.{Value}
use Rattle.iltypes.specs.declared.value.Value.TheVariants as values
use Rattle.iltypes.specs.Arithmetic.{lower_remainder, upper_remainder}
use Rattle.iltypes.specs.declared.operator.Operator.{Operator}
use Rattle.iltypes.specs.declared.operator.Operator.TheVariants as operators
use Rattle.iltypes.specs.Operators.{value_of_operator}
use Rattle.ilverify.specs.declared.cause.Cause.{Cause}
use Rattle.ilverify.specs.declared.cause.Cause.TheVariants as causes
use Rattle.ilverify.specs.declared.known.Known.{Known}
use Rattle.ilverify.specs.declared.known.Known.TheVariants as knowns
use Rattle.ilverify.specs.Knowns.{IsKnown, IsOfKind, AreReached}

-- the operator gives the value of some values that are known so
pub record IsResult (operator : Operator) (left right : Known) (value : Value) : Type 0 where
  pub x : Value
  pub y : Value
  pub of_left : IsKnown x left
  pub of_right : IsKnown y right
  pub is : value_of_operator operator x y ≡ Some value

-- MOD has the range of the profile, which may be wider than the least
abbrev pub IsRangeOfMod : Known → Known → Known → Type 0
IsRangeOfMod (knowns.Int left) (knowns.Int right) (knowns.Int range) =
    (range.lo ≡ lower_remainder left right) × (range.hi ≡ upper_remainder left right)
IsRangeOfMod _ _ _ = ⊥

-- no less can be said of the results, but for those of MOD
abbrev pub IsClosest : Operator → Known → Known → Known → Type 0
IsClosest operators.Mod left right known = IsRangeOfMod left right known
IsClosest operator left right known = AreReached (IsResult operator left right) known

-- each two values that are known so have a value, it is known so, and no less can be said
pub record IsAfter (operator : Operator) (left right known : Known) : Type 0 where
  pub some : (x y : Value) → IsKnown x left → IsKnown y right → IsSome (value_of_operator operator x y)
  pub each : (value : Value) → IsResult operator left right value → IsKnown value known
  pub closest : IsClosest operator left right known

-- wrong type: no values of these kinds have a value
abbrev pub IsWrongType : Operator → Known → Known → Type 0
IsWrongType operator left right =
    (x y : Value) → IsOfKind x left → IsOfKind y right → IsNone (value_of_operator operator x y)

-- the operator divides by this value, which is 0
abbrev pub DividesByZero : Operator → Value → Type 0
DividesByZero operators.Div (values.Int number) = number ≡ pos 0
DividesByZero operators.Mod (values.Int number) = number ≡ pos 0
DividesByZero _ _ = ⊥

-- may be zero: the operator divides by some value that is known so and is 0
pub record MayDivideByZero (operator : Operator) (right : Known) : Type 0 where
  pub y : Value
  pub of_right : IsKnown y right
  pub is : DividesByZero operator y

-- too big: some values that are known so have no value, though they are of the operator's kinds and none is a divisor 0
pub record IsTooBig (operator : Operator) (left right : Known) : Type 0 where
  pub kinds : ¬ IsWrongType operator left right
  pub x : Value
  pub y : Value
  pub of_left : IsKnown x left
  pub of_right : IsKnown y right
  pub divisor : ¬ DividesByZero operator y
  pub none : IsNone (value_of_operator operator x y)

-- the cause arises, whatever others do; no operator has a range that is allowed
abbrev pub Arises : Operator → Known → Known → Cause → Type 0
Arises operator left right causes.WrongType = IsWrongType operator left right
Arises operator left right causes.MayBeZero = MayDivideByZero operator right
Arises operator left right causes.TooBig = IsTooBig operator left right
Arises operator left right _ = ⊥
