-- What the steps of computing with ranges give.
use Rattle.std.specs.Prelude.{◌≡◌, ℤ, ◌⊎◌, FitsSigned, Option, Some, None}
use Rattle.std.specs.Int.{w64, int_min, int_max}
use Rattle.iltypes.specs.declared.range.Range.{Range}

-- the range from low to high, where both have 64 signed bits
abbrev pub IsRangeOf : ℤ → ℤ → Option Range → Type 0
IsRangeOf low high (Some range) = (range.lo ≡ low) × (range.hi ≡ high) × FitsSigned w64 low × FitsSigned w64 high
IsRangeOf low high None = ¬ FitsSigned w64 low ⊎ ¬ FitsSigned w64 high

-- the least and the greatest of four numbers
abbrev pub least_of_four : ℤ → ℤ → ℤ → ℤ → ℤ
least_of_four a b c d = int_min (int_min a b) (int_min c d)

abbrev pub greatest_of_four : ℤ → ℤ → ℤ → ℤ → ℤ
greatest_of_four a b c d = int_max (int_max a b) (int_max c d)
