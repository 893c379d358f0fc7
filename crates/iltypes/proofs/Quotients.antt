-- The four corners of a quotient.
use Rattle.std.proofs.Common.{◌≢◌, ℕ, zero, suc, ◌/◌, ◌≤◌, ◌<◌, ℤ, pos, negsuc, ◌≤ℤ◌, inl, inr, refl, subst, arith}
use Rattle.std.specs.Prelude.{int_div}
use Rattle.std.proofs.Math.Nat.{mul-le-mul_left, div-mul-le_self}
use Rattle.std.proofs.lemmas.Nat.{le-div}
use Rattle.std.proofs.lemmas.Int.{ints}
use Rattle.iltypes.specs.declared.range.Range.{Range}
use Rattle.iltypes.specs.Ranges.{Holds}
use Rattle.iltypes.specs.Arithmetic.{IsQuotient}
use Rattle.iltypes.proofs.Limits.{HasLimits}
use Rattle.iltypes.proofs.Corners.{Between, least_corner, greatest_corner, limits_corners}

div_up : (m n k : ℕ) → 0 < k → m ≤ n → m / k ≤ n / k
div_up m n k p h = le-div (m / k) n k p (omega (arith, div-mul-le_self m k))

div_down : (a j k : ℕ) → 0 < k → k ≤ j → a / j ≤ a / k
div_down a j k p h = le-div (a / j) a k p (omega (arith, mul-le-mul_left (a / j) h, div-mul-le_self a j))

-- the divisor is fixed
up : (x x' : ℤ) (k : ℕ) → 0 < k → x ≤ℤ x' → int_div x (pos k) ≤ℤ int_div x' (pos k)
up (pos m) (pos n) k p h = omega (arith, ints, div_up m n k p (omega (arith, ints)))
up (negsuc m) (pos n) k p h = omega (arith, ints)
up (negsuc m) (negsuc n) k p h = omega (arith, ints, div_up (suc n) (suc m) k p (omega (arith, ints)))
up (pos m) (negsuc n) k p h = absurd (omega (arith, ints))

down : (x x' : ℤ) (k : ℕ) → x ≤ℤ x' → int_div x' (negsuc k) ≤ℤ int_div x (negsuc k)
down (pos m) (pos n) k h = omega (arith, ints, div_up m n (suc k) (omega arith) (omega (arith, ints)))
down (negsuc m) (pos n) k h = omega (arith, ints)
down (negsuc m) (negsuc n) k h = omega (arith, ints, div_up (suc n) (suc m) (suc k) (omega arith) (omega (arith, ints)))
down (pos m) (negsuc n) k h = absurd (omega (arith, ints))

pub left_between : (l h x y : ℤ) → (y ≢ pos 0) → l ≤ℤ x → x ≤ℤ h → Between (int_div l y) (int_div h y) (int_div x y)
left_between l h x (pos zero) n p q = absurd (n refl)
left_between l h x (pos (suc k)) n p q = inl (up l x (suc k) (omega arith) p, up x h (suc k) (omega arith) q)
left_between l h x (negsuc k) n p q = inr (down x h k q, down l x k p)

-- the dividend is fixed, and the divisors have one sign
pos_between : (x : ℤ) (k j m : ℕ) → 0 < k → k ≤ j → j ≤ m
    → Between (int_div x (pos k)) (int_div x (pos m)) (int_div x (pos j))
pos_between (pos a) k j m p h i =
    inr (omega (arith, ints, div_down a m j (omega arith) i), omega (arith, ints, div_down a j k p h))
pos_between (negsuc a) k j m p h i =
    inl (omega (arith, ints, div_down (suc a) j k p h), omega (arith, ints, div_down (suc a) m j (omega arith) i))

neg_between : (x : ℤ) (k j m : ℕ) → m ≤ j → j ≤ k
    → Between (int_div x (negsuc k)) (int_div x (negsuc m)) (int_div x (negsuc j))
neg_between (pos a) k j m h i =
    let s = div_down a (suc j) (suc m) (omega arith) (omega arith) in
    let t = div_down a (suc k) (suc j) (omega arith) (omega arith) in
    inr (omega (arith, ints, s, t), omega (arith, ints, s, t))
neg_between (negsuc a) k j m h i =
    let s = div_down (suc a) (suc j) (suc m) (omega arith) (omega arith) in
    let t = div_down (suc a) (suc k) (suc j) (omega arith) (omega arith) in
    inl (omega (arith, ints, s, t), omega (arith, ints, s, t))

pub right_between : (x l h y : ℤ) → ((l ≤ℤ pos 0) × (pos 0 ≤ℤ h) → ⊥) → l ≤ℤ y → y ≤ℤ h
    → Between (int_div x l) (int_div x h) (int_div x y)
right_between x (pos zero) h y n p q = absurd (n (omega (arith, ints), omega (arith, ints)))
right_between x (pos (suc k)) (pos m) (pos j) n p q =
    pos_between x (suc k) j m (omega arith) (omega (arith, ints)) (omega (arith, ints))
right_between x (pos (suc k)) (pos m) (negsuc j) n p q = absurd (omega (arith, ints))
right_between x (pos (suc k)) (negsuc m) y n p q = absurd (omega (arith, ints))
right_between x (negsuc k) (pos m) y n p q = absurd (n (omega (arith, ints), omega (arith, ints)))
right_between x (negsuc k) (negsuc m) (pos j) n p q = absurd (omega (arith, ints))
right_between x (negsuc k) (negsuc m) (negsuc j) n p q = neg_between x k j m (omega (arith, ints)) (omega (arith, ints))

pub limits_quotient : (a b : Range) → ¬ Holds b (pos 0)
    → HasLimits (IsQuotient a b) (least_corner int_div a b) (greatest_corner int_div a b)
limits_quotient a b n =
    limits_corners int_div a b
    (λ x y p q. left_between a.lo a.hi x y (λ e. n (subst (Holds b) e q)) p.low p.high)
    (λ x y p q. right_between x b.lo b.hi y (λ h. n (record { low = h.0; high = h.1 })) q.low q.high)
