-- What the steps of passing give.
use Rattle.std.specs.Prelude.{ℤ, Option, Some, None}
use Rattle.iltypes.specs.declared.range.Range.{Range}
use Rattle.iltypes.specs.Ranges.{Holds}
use Rattle.iltypes.specs.Arithmetic.{IsLeast}

-- the number is one of the range and meets the test
pub record IsTested (Test : ℤ → Type 0) (range : Range) (number : ℤ) : Type 0 where
  pub of_range : Holds range number
  pub test : Test number

-- the least range of a set of numbers, or none where it is empty
abbrev pub IsLeastOf : (ℤ → Type 0) → Option Range → Type 0
IsLeastOf IsOfSet (Some range) = IsLeast IsOfSet range
IsLeastOf IsOfSet None = (number : ℤ) → ¬ IsOfSet number

abbrev pub IsLeastTested : (ℤ → Type 0) → Range → Option Range → Type 0
IsLeastTested Test range kept = IsLeastOf (IsTested Test range) kept
