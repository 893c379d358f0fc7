-- What is known after a function of one value (IEC 61131-3, 3.2.2 and 2.5.1.5), and why one is refused (profile).
use Rattle.std.specs.Prelude.{◌≡◌, IsSome, IsNone, Some}
use Rattle.iltypes.specs.declared.range.Range.{Range}
use Rattle.iltypes.specs.declared.value.Value.{Value}
use Rattle.iltypes.specs.Ranges.{IsWithin}
use Rattle.iltypes.specs.declared.function.Function.{Function}
use Rattle.iltypes.specs.declared.function.Function.TheVariants as functions
use Rattle.iltypes.specs.declared.function.IntegerType.{IntegerType}
use Rattle.iltypes.specs.Functions.{value_of_function, least_of, greatest_of}
use Rattle.ilverify.specs.declared.cause.Cause.{Cause}
use Rattle.ilverify.specs.declared.cause.Cause.TheVariants as causes
use Rattle.ilverify.specs.declared.known.Known.{Known}
use Rattle.ilverify.specs.declared.known.Known.TheVariants as knowns
use Rattle.ilverify.specs.Knowns.{IsKnown, IsOfKind, AreReached}

-- the function gives the value of some value that is known so
pub record IsGiven (function : Function) (operand : Known) (value : Value) : Type 0 where
  pub x : Value
  pub of_operand : IsKnown x operand
  pub is : value_of_function function x ≡ Some value

-- each value that is known so has a value, it is known so, and no less can be said
pub record IsAfterFunction (function : Function) (operand known : Known) : Type 0 where
  pub some : (x : Value) → IsKnown x operand → IsSome (value_of_function function x)
  pub each : (value : Value) → IsGiven function operand value → IsKnown value known
  pub closest : AreReached (IsGiven function operand) known

-- wrong type: no value of this kind has a value
abbrev pub IsWrongTypeFor : Function → Known → Type 0
IsWrongTypeFor function operand = (x : Value) → IsOfKind x operand → IsNone (value_of_function function x)

-- out of range: the numbers that are known so are not all of the type
pub record IsOutOfType (type : IntegerType) (operand : Known) (found allowed : Range) : Type 0 where
  pub operand_is : operand ≡ knowns.Int found
  pub low : allowed.lo ≡ least_of type
  pub high : allowed.hi ≡ greatest_of type
  pub out : ¬ IsWithin found allowed

-- too big: some value that is known so has no value, though it is of the function's kind
pub record IsTooBigFor (function : Function) (operand : Known) : Type 0 where
  pub kind : ¬ IsWrongTypeFor function operand
  pub x : Value
  pub of_operand : IsKnown x operand
  pub none : IsNone (value_of_function function x)

-- the cause arises, whatever others do; what a conversion leaves out is out of range, and never too big
abbrev pub ArisesAtFunction : Function → Known → Cause → Type 0
ArisesAtFunction function operand causes.WrongType = IsWrongTypeFor function operand
ArisesAtFunction (functions.Convert type) operand (causes.OutOfRange found allowed) =
    IsOutOfType type operand found allowed
ArisesAtFunction (functions.Convert type) operand causes.TooBig = ⊥
ArisesAtFunction function operand causes.TooBig = IsTooBigFor function operand
ArisesAtFunction function operand _ = ⊥
