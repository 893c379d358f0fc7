-- Intervals of whole numbers.
use Rattle.std.specs.Prelude.{ℤ, ◌≤ℤ◌}
use Rattle.iltypes.specs.declared.range.Range.{Range}

-- the number lies in the range
pub record Holds (range : Range) (number : ℤ) : Type 0 where
  pub low : range.lo ≤ℤ number
  pub high : number ≤ℤ range.hi

-- all numbers of the first range lie in the second
pub record IsWithin (inner outer : Range) : Type 0 where
  pub low : outer.lo ≤ℤ inner.lo
  pub high : inner.hi ≤ℤ outer.hi
