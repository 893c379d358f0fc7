-- Marks (profile): what the current result says of the number in a slot, when it is so, and which words leave one.
use Rattle.std.specs.Prelude.{◌≡◌, ℕ, ℤ, Bool, false, if◌then◌else◌, List, Option, Some, None, slice_get, ⊤}
use Rattle.iltypes.specs.declared.value.Value.{Value}
use Rattle.iltypes.specs.declared.value.Value.TheVariants as values
use Rattle.iltypes.specs.declared.function.Function.{Function}
use Rattle.iltypes.specs.declared.function.Function.TheVariants as functions
use Rattle.iltypes.specs.declared.operator.Operator.{Operator}
use Rattle.iltypes.specs.Comparisons.{compares, turned}
use Rattle.iltypes.specs.Operators.{value_of_operator}
use Rattle.ilcode.specs.declared.word.WordOperand.{WordOperand}
use Rattle.ilcode.specs.declared.word.WordOperand.TheVariants.{Slot, Constant, Port}
use Rattle.ilcode.specs.Listings.{Listing}
use Rattle.ilverify.specs.declared.known.Known.{Known}
use Rattle.ilverify.specs.declared.known.Known.TheVariants as knowns
use Rattle.ilverify.specs.declared.mark.ResultMark.{ResultMark}
use Rattle.ilverify.specs.declared.mark.ResultMark.TheVariants.{Copy, Test}

-- the current result is the number in the slot
pub record IsCopy (slots : List Value) (result : Option Value) (slot : ℕ) : Type 0 where
  pub number : ℤ
  pub there : slice_get slots slot ≡ Some (values.Int number)
  pub is : result ≡ Some (values.Int number)

-- the current result is the outcome of comparing the number in the slot with the limit
pub record IsTest (slots : List Value) (result : Option Value) (slot : ℕ) (comparison : Operator) (limit : ℤ)
    : Type 0 where
  pub number : ℤ
  pub there : slice_get slots slot ≡ Some (values.Int number)
  pub outcome : Bool
  pub tested : value_of_operator comparison (values.Int number) (values.Int limit) ≡ Some (values.Bool outcome)
  pub is : result ≡ Some (values.Bool outcome)

-- the current result is as the mark says; no mark says nothing
abbrev pub IsMarked : List Value → Option Value → Option ResultMark → Type 0
IsMarked slots result None = ⊤
IsMarked slots result (Some (Copy slot)) = IsCopy slots result slot
IsMarked slots result (Some (Test slot comparison limit)) = IsTest slots result slot comparison limit

-- 'no mark' holds of every mark
abbrev pub IsMarkInto : Option ResultMark → Option ResultMark → Type 0
IsMarkInto mark None = ⊤
IsMarkInto None (Some wider) = ⊥
IsMarkInto (Some mark) (Some wider) = mark ≡ wider

-- ---- which words leave a mark: LD of a number's slot, a comparison of what it loaded with a constant, and NOT of
-- that; a store, S, R and a jump keep one, and any other word removes it

abbrev pub mark_of_load : Bool → WordOperand → Known → Option ResultMark
mark_of_load false (Slot slot) (knowns.Int range) = Some (Copy slot)
mark_of_load _ _ _ = None

-- the constant of an operand that is one
abbrev pub constant_of : Listing → WordOperand → Option Value
constant_of code (Slot slot) = None
constant_of code (Constant constant) = slice_get code.constants constant
constant_of code (Port port block) = None

abbrev pub mark_of_apply : Option ResultMark → Operator → Option Value → Option ResultMark
mark_of_apply (Some (Copy slot)) operator (Some (values.Int limit)) =
    if compares operator then Some (Test slot operator limit) else None
mark_of_apply _ _ _ = None

abbrev pub mark_of_function : Option ResultMark → Function → Option ResultMark
mark_of_function (Some (Test slot comparison limit)) functions.Not = Some (Test slot (turned comparison) limit)
mark_of_function _ _ = None
