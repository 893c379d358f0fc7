-- The ranges of results (IEC 61131-3, 3.2.2 and 2.5.1.5.2; profile: computing is done in 64 signed bits).
use Rattle.std.specs.Prelude.{◌≡◌, ℕ, ℤ, pos, neg_ℤ, ◌+ℤ◌, ◌-ℤ◌, ◌*ℤ◌, ◌-◌, ◌⊎◌, max, if◌then◌else◌, FitsSigned}
use Rattle.std.specs.Prelude.{int_div, int_lt, unsigned_abs}
use Rattle.std.specs.Int.{w64, int_min, int_max}
use Rattle.iltypes.specs.declared.range.Range.{Range}
use Rattle.iltypes.specs.Ranges.{Holds}

-- the number is the result of the operation on some number of each range
pub record IsResult (operation : ℤ → ℤ → ℤ) (left right : Range) (number : ℤ) : Type 0 where
  pub x : ℤ
  pub y : ℤ
  pub of_left : Holds left x
  pub of_right : Holds right y
  pub is : operation x y ≡ number

-- what is left of x when y is taken away as often as the quotient says, which is rounded toward 0
abbrev pub remainder : ℤ → ℤ → ℤ
remainder x y = x -ℤ (int_div x y *ℤ y)

abbrev pub IsSum : Range → Range → ℤ → Type 0
IsSum left right number = IsResult (λ x y. x +ℤ y) left right number

abbrev pub IsDifference : Range → Range → ℤ → Type 0
IsDifference left right number = IsResult (λ x y. x -ℤ y) left right number

abbrev pub IsProduct : Range → Range → ℤ → Type 0
IsProduct left right number = IsResult (λ x y. x *ℤ y) left right number

abbrev pub IsQuotient : Range → Range → ℤ → Type 0
IsQuotient left right number = IsResult int_div left right number

abbrev pub IsRemainder : Range → Range → ℤ → Type 0
IsRemainder left right number = IsResult remainder left right number

abbrev pub IsLesser : Range → Range → ℤ → Type 0
IsLesser left right number = IsResult int_min left right number

abbrev pub IsGreater : Range → Range → ℤ → Type 0
IsGreater left right number = IsResult int_max left right number

-- the number is how far some number of the range is from 0
pub record IsMagnitude (range : Range) (number : ℤ) : Type 0 where
  pub x : ℤ
  pub of_range : Holds range x
  pub is : pos (unsigned_abs x) ≡ number

-- the number lies in one range or in the other
abbrev pub IsOfEither : Range → Range → ℤ → Type 0
IsOfEither left right number = Holds left number ⊎ Holds right number

-- the least range of a set of numbers: it holds each of them, and both its limits are among them
pub record IsLeast (IsOfSet : ℤ → Type 0) (range : Range) : Type 0 where
  pub each : (number : ℤ) → IsOfSet number → Holds range number
  pub low : IsOfSet range.lo
  pub high : IsOfSet range.hi

-- some number of the set leaves 64 signed bits
pub record Leaves (IsOfSet : ℤ → Type 0) : Type 0 where
  pub number : ℤ
  pub is : IsOfSet number
  pub out : ¬ FitsSigned w64 number

-- the greatest magnitude of a divisor, less 1
abbrev pub most_left : Range → ℕ
most_left divisors = max (unsigned_abs divisors.lo) (unsigned_abs divisors.hi) - 1

-- a range for remainders (profile): each has the sign of its dividend, and is no further from 0 than it, nor than
-- most_left
abbrev pub lower_remainder : Range → Range → ℤ
lower_remainder left right = if int_lt left.lo (pos 0) then int_max left.lo (neg_ℤ (pos (most_left right))) else pos 0

abbrev pub upper_remainder : Range → Range → ℤ
upper_remainder left right = if int_lt (pos 0) left.hi then int_min left.hi (pos (most_left right)) else pos 0
