-- The four corners of a product and of a quotient.
use Rattle.std.proofs.Common.{ℕ, suc, ◌≤◌, ℤ, pos, negsuc, ◌*ℤ◌, ◌≤ℤ◌, ◌⊎◌, inl, inr, arith}
use Rattle.std.proofs.Math.Nat.{mul-le-mul_right}
use Rattle.std.proofs.Math.IntN.{*ℤ_comm}
use Rattle.std.proofs.lemmas.Int.{ints, clamps}
use Rattle.iltypes.specs.declared.range.Range.{Range}
use Rattle.iltypes.specs.Ranges.{Holds}
use Rattle.iltypes.specs.Arithmetic.{IsResult, IsProduct}
use Rattle.iltypes.specs.RangeSteps.{least_of_four, greatest_of_four}
use Rattle.iltypes.proofs.Limits.{HasLimits, holds_low, holds_high, limits_of, result, of_min, of_max}

-- z lies between u and v, in one order or the other
abbrev pub Between : ℤ → ℤ → ℤ → Type 0
Between u v z = ((u ≤ℤ z) × (z ≤ℤ v)) ⊎ ((v ≤ℤ z) × (z ≤ℤ u))

-- what is between two numbers is within what both are
pub between_in : (u v z lo hi : ℤ) → Between u v z → (lo ≤ℤ u) × (u ≤ℤ hi) → (lo ≤ℤ v) × (v ≤ℤ hi)
    → (lo ≤ℤ z) × (z ≤ℤ hi)
between_in u v z lo hi (inl b) p q = (omega (arith, ints, b.0, p.0), omega (arith, ints, b.1, q.1))
between_in u v z lo hi (inr b) p q = (omega (arith, ints, b.0, q.0), omega (arith, ints, b.1, p.1))

-- the least and the greatest of the four corners
abbrev pub least_corner : (ℤ → ℤ → ℤ) → Range → Range → ℤ
least_corner f a b = least_of_four (f a.lo b.lo) (f a.lo b.hi) (f a.hi b.lo) (f a.hi b.hi)

abbrev pub greatest_corner : (ℤ → ℤ → ℤ) → Range → Range → ℤ
greatest_corner f a b = greatest_of_four (f a.lo b.lo) (f a.lo b.hi) (f a.hi b.lo) (f a.hi b.hi)

four_min : (s t u v : ℤ) → (least_of_four s t u v ≤ℤ s) × (least_of_four s t u v ≤ℤ t) × (least_of_four s t u v ≤ℤ u)
    × (least_of_four s t u v ≤ℤ v)
four_min s t u v =
    (omega (arith, ints, clamps), omega (arith, ints, clamps), omega (arith, ints, clamps), omega (arith, ints, clamps))

four_max : (s t u v : ℤ) → (s ≤ℤ greatest_of_four s t u v) × (t ≤ℤ greatest_of_four s t u v)
    × (u ≤ℤ greatest_of_four s t u v)
    × (v ≤ℤ greatest_of_four s t u v)
four_max s t u v =
    (omega (arith, ints, clamps), omega (arith, ints, clamps), omega (arith, ints, clamps), omega (arith, ints, clamps))

-- an operation that runs between its values at the limits, in each argument, has its limits at the corners
pub limits_corners : (f : ℤ → ℤ → ℤ) (a b : Range)
    → ((x y : ℤ) → Holds a x → Holds b y → Between (f a.lo y) (f a.hi y) (f x y))
    → ((x y : ℤ) → Holds a x → Holds b y → Between (f x b.lo) (f x b.hi) (f x y))
    → HasLimits (IsResult f a b) (least_corner f a b) (greatest_corner f a b)
limits_corners f a b left right =
    let l = four_min (f a.lo b.lo) (f a.lo b.hi) (f a.hi b.lo) (f a.hi b.hi) in
    let h = four_max (f a.lo b.lo) (f a.lo b.hi) (f a.hi b.lo) (f a.hi b.hi) in
    let ll = result f a b _ _ (holds_low a) (holds_low b) in
    let lh = result f a b _ _ (holds_low a) (holds_high b) in
    let hl = result f a b _ _ (holds_high a) (holds_low b) in
    let hh = result f a b _ _ (holds_high a) (holds_high b) in
    let P = IsResult f a b in
    limits_of f a b (least_corner f a b) (greatest_corner f a b)
    (λ x y p q.
    between_in _ _ _ _ _ (left x y p q)
    (between_in _ _ _ _ _ (right a.lo y (holds_low a) q) (l.0, h.0) (l.1, h.1))
    (between_in _ _ _ _ _ (right a.hi y (holds_high a) q) (l.2, h.2) (l.3, h.3)))
    (of_min P _ _ (of_min P _ _ ll lh) (of_min P _ _ hl hh))
    (of_max P _ _ (of_max P _ _ ll lh) (of_max P _ _ hl hh))

-- ---- products

mul_up : (x x' : ℤ) (k : ℕ) → x ≤ℤ x' → (x *ℤ pos k) ≤ℤ (x' *ℤ pos k)
mul_up (pos m) (pos n) k h = let s : m ≤ n = omega (arith, ints) in omega (arith, ints, mul-le-mul_right k s)
mul_up (negsuc m) (pos n) k h = omega (arith, ints)
mul_up (negsuc m) (negsuc n) k h =
    let s : suc n ≤ suc m = omega (arith, ints) in omega (arith, ints, mul-le-mul_right k s)
mul_up (pos m) (negsuc n) k h = absurd (omega (arith, ints))

mul_down : (x x' : ℤ) (k : ℕ) → x ≤ℤ x' → (x' *ℤ negsuc k) ≤ℤ (x *ℤ negsuc k)
mul_down (pos m) (pos n) k h = let s : m ≤ n = omega (arith, ints) in omega (arith, ints, mul-le-mul_right (suc k) s)
mul_down (negsuc m) (pos n) k h = omega (arith, ints)
mul_down (negsuc m) (negsuc n) k h =
    let s : suc n ≤ suc m = omega (arith, ints) in omega (arith, ints, mul-le-mul_right (suc k) s)
mul_down (pos m) (negsuc n) k h = absurd (omega (arith, ints))

pub mul_between : (l h x y : ℤ) → l ≤ℤ x → x ≤ℤ h → Between (l *ℤ y) (h *ℤ y) (x *ℤ y)
mul_between l h x (pos k) p q = inl (mul_up l x k p, mul_up x h k q)
mul_between l h x (negsuc k) p q = inr (mul_down x h k q, mul_down l x k p)

pub limits_product : (a b : Range)
    → HasLimits (IsProduct a b) (least_corner (λ x y. x *ℤ y) a b) (greatest_corner (λ x y. x *ℤ y) a b)
limits_product a b =
    limits_corners (λ x y. x *ℤ y) a b
    (λ x y p q. mul_between a.lo a.hi x y p.low p.high)
    (λ x y p q. rw (*ℤ_comm x b.lo, *ℤ_comm x b.hi, *ℤ_comm x y) (mul_between b.lo b.hi y x q.low q.high))
