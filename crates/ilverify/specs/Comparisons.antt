-- The numbers of a range that pass a comparison with a constant (IEC 61131-3, 3.2.2).
use Rattle.std.specs.Prelude.{◌≡◌, ℤ, Bool, Some}
use Rattle.iltypes.specs.declared.range.Range.{Range}
use Rattle.iltypes.specs.declared.value.Value.TheVariants as values
use Rattle.iltypes.specs.Ranges.{Holds}
use Rattle.iltypes.specs.declared.operator.Operator.{Operator}
use Rattle.iltypes.specs.Operators.{value_of_operator}

-- the number is one of the range, and `number OP limit` has this outcome
pub record IsPassing (comparison : Operator) (outcome : Bool) (limit : ℤ) (range : Range) (number : ℤ) : Type 0 where
  pub of_range : Holds range number
  pub is : value_of_operator comparison (values.Int number) (values.Int limit) ≡ Some (values.Bool outcome)
