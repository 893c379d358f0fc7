-- The limits of sets of numbers.
use Rattle.std.proofs.Common.{◌≡◌, ℤ, ◌+ℤ◌, ◌-ℤ◌, ◌≤ℤ◌, Bool, true, false, cond, refl, subst, arith, inl, inr}
use Rattle.std.specs.Prelude.{int_lt}
use Rattle.std.specs.Int.{int_min, int_max}
use Rattle.std.proofs.lemmas.Int.{ints, clamps}
use Rattle.std.specs.Int.Signed.{≤ℤ_refl}
use Rattle.iltypes.specs.declared.range.Range.{Range}
use Rattle.iltypes.specs.Ranges.{Holds}
use Rattle.iltypes.specs.Arithmetic.{IsResult, IsSum, IsDifference, IsLesser, IsGreater, IsOfEither, IsLeast}

-- all numbers of the set lie from low to high, and both are of the set
pub record HasLimits (IsOfSet : ℤ → Type 0) (low high : ℤ) : Type 0 where
  pub each : (number : ℤ) → IsOfSet number → (low ≤ℤ number) × (number ≤ℤ high)
  pub least : IsOfSet low
  pub most : IsOfSet high

pub holds_low : (a : Range) → Holds a a.lo
holds_low a = record { low = ≤ℤ_refl a.lo; high = a.ordered }

pub holds_high : (a : Range) → Holds a a.hi
holds_high a = record { low = a.ordered; high = ≤ℤ_refl a.hi }

pub result : (f : ℤ → ℤ → ℤ) (a b : Range) (x y : ℤ) → Holds a x → Holds b y → IsResult f a b (f x y)
result f a b x y p q = record { x = x; y = y; of_left = p; of_right = q; is = refl }

-- the limits of an operation's results
pub limits_of : (f : ℤ → ℤ → ℤ) (a b : Range) (low high : ℤ)
    → ((x y : ℤ) → Holds a x → Holds b y → (low ≤ℤ f x y) × (f x y ≤ℤ high)) → IsResult f a b low → IsResult f a b high
    → HasLimits (IsResult f a b) low high
limits_of f a b low high each least most = record {
  each = λ z h. subst (λ (n : ℤ). (low ≤ℤ n) × (n ≤ℤ high)) h.is (each h.x h.y h.of_left h.of_right);
  least = least;
  most = most;
}

-- a range with these limits is the least
pub least_is : (IsOfSet : ℤ → Type 0) (range : Range) (low high : ℤ) → range.lo ≡ low → range.hi ≡ high
    → HasLimits IsOfSet low high
    → IsLeast IsOfSet range
least_is IsOfSet range low high p q h = record {
  each = λ z s. record { low = rw p ((h.each z s).0); high = rw q ((h.each z s).1) };
  low = rw p h.least;
  high = rw q h.most;
}

pub limits_sum : (a b : Range) → HasLimits (IsSum a b) (a.lo +ℤ b.lo) (a.hi +ℤ b.hi)
limits_sum a b =
    limits_of (λ x y. x +ℤ y) a b _ _ (λ x y p q. (
      omega (arith, ints, p.low, q.low),
      omega
          (arith, ints, p.high, q.high),
    ))
    (result (λ x y. x +ℤ y) a b _ _ (holds_low a) (holds_low b))
    (result (λ x y. x +ℤ y) a b _ _ (holds_high a) (holds_high b))

pub limits_difference : (a b : Range) → HasLimits (IsDifference a b) (a.lo -ℤ b.hi) (a.hi -ℤ b.lo)
limits_difference a b =
    limits_of (λ x y. x -ℤ y) a b _ _ (λ x y p q. (
      omega (arith, ints, p.low, q.high),
      omega
          (arith, ints, p.high, q.low),
    ))
    (result (λ x y. x -ℤ y) a b _ _ (holds_low a) (holds_high b))
    (result (λ x y. x -ℤ y) a b _ _ (holds_high a) (holds_low b))

pub limits_lesser : (a b : Range) → HasLimits (IsLesser a b) (int_min a.lo b.lo) (int_min a.hi b.hi)
limits_lesser a b =
    limits_of int_min a b _ _
    (λ x y p q. (omega (arith, ints, clamps, p.low, q.low), omega (arith, ints, clamps, p.high, q.high)))
    (result int_min a b _ _ (holds_low a) (holds_low b)) (result int_min a b _ _ (holds_high a) (holds_high b))

pub limits_greater : (a b : Range) → HasLimits (IsGreater a b) (int_max a.lo b.lo) (int_max a.hi b.hi)
limits_greater a b =
    limits_of int_max a b _ _
    (λ x y p q. (omega (arith, ints, clamps, p.low, q.low), omega (arith, ints, clamps, p.high, q.high)))
    (result int_max a b _ _ (holds_low a) (holds_low b)) (result int_max a b _ _ (holds_high a) (holds_high b))

of_cond : (P : ℤ → Type 0) (t : Bool) (u v : ℤ) → P u → P v → P (cond t u v)
of_cond P true u v p q = p
of_cond P false u v p q = q

pub of_min : (P : ℤ → Type 0) (u v : ℤ) → P u → P v → P (int_min u v)
of_min P u v p q = of_cond P (int_lt v u) v u q p

pub of_max : (P : ℤ → Type 0) (u v : ℤ) → P u → P v → P (int_max u v)
of_max P u v p q = of_cond P (int_lt v u) u v p q

pub limits_either : (a b : Range) → HasLimits (IsOfEither a b) (int_min a.lo b.lo) (int_max a.hi b.hi)
limits_either a b = record {
  each = λ z h. elim h as (λ _. (int_min a.lo b.lo ≤ℤ z) × (z ≤ℤ int_max a.hi b.hi)) [
    | inl p ↦ (omega (arith, ints, clamps, p.low), omega (arith, ints, clamps, p.high))
    | inr q ↦ (omega (arith, ints, clamps, q.low), omega (arith, ints, clamps, q.high))
  ];
  least = of_min (IsOfEither a b) a.lo b.lo (inl (holds_low a)) (inr (holds_low b));
  most = of_max (IsOfEither a b) a.hi b.hi (inl (holds_high a)) (inr (holds_high b));
}
