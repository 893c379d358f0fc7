-- The range of remainders.
use Rattle.std.proofs.Common.{◌≡◌, ℕ, zero, suc, ◌+◌, ◌≤◌, ◌<◌, max, ℤ, pos, negsuc, neg_ℤ, ◌+ℤ◌, ◌-ℤ◌, ◌*ℤ◌, ◌≤ℤ◌}
use Rattle.std.proofs.Common.{Bool, true, false, cond, refl, sym, subst, ◌∙◌, arith}
use Rattle.std.specs.Prelude.{int_div, int_rem, int_lt, unsigned_abs}
use Rattle.std.specs.Int.{int_min, int_max}
use Rattle.std.proofs.Math.Nat.{mod-lt, mod-le}
use Rattle.std.proofs.lemmas.Int.{ints, clamps, quot-rem}
use Rattle.iltypes.specs.declared.range.Range.{Range}
use Rattle.iltypes.specs.Ranges.{Holds}
use Rattle.iltypes.specs.Arithmetic.{IsRemainder, remainder, most_left, lower_remainder, upper_remainder}

left_over : (q r x : ℤ) → q +ℤ r ≡ x → x -ℤ q ≡ r
left_over q r x e = omega (arith, ints, e)

remainder_is : (x y : ℤ) → remainder x y ≡ int_rem x y
remainder_is x y = left_over (int_div x y *ℤ y) (int_rem x y) x (quot-rem x y)

lower : (t : Bool) (x y l : ℤ) (m : ℕ) → int_lt l (pos 0) ≡ t → 0 < unsigned_abs y → unsigned_abs y ≤ m + 1 → l ≤ℤ x
    → cond t (int_max l (neg_ℤ (pos m))) (pos 0) ≤ℤ int_rem x y
lower true x y (pos p) m e k h le = absurd (grind (arith, e))
lower true (pos n) y (negsuc p) m e k h le = omega (arith, ints, clamps, mod-lt n k)
lower true (negsuc n) y (negsuc p) m e k h le =
    omega (arith, ints, clamps, mod-lt (suc n) k, mod-le (suc n) (unsigned_abs y))
lower false (pos n) y (pos p) m e k h le = omega (arith, ints, mod-lt n k)
lower false (negsuc n) y (pos p) m e k h le = absurd (omega (arith, ints, le))
lower false x y (negsuc p) m e k h le = absurd (cc)

upper : (t : Bool) (x y u : ℤ) (m : ℕ) → int_lt (pos 0) u ≡ t → 0 < unsigned_abs y → unsigned_abs y ≤ m + 1 → x ≤ℤ u
    → int_rem x y ≤ℤ cond t (int_min u (pos m)) (pos 0)
upper true (pos n) y (pos p) m e k h le = omega (arith, ints, clamps, mod-lt n k, mod-le n (unsigned_abs y))
upper true (negsuc n) y (pos p) m e k h le = omega (arith, ints, clamps, mod-lt (suc n) k)
upper true x y (negsuc p) m e k h le = absurd (cc)
upper false (pos n) y (pos p) m e k h le =
    let z : p ≡ 0 = grind (arith, e) in omega (arith, ints, z, le, mod-lt n k, mod-le n (unsigned_abs y))
upper false (negsuc n) y (pos p) m e k h le = omega (arith, ints, mod-lt (suc n) k)
upper false (pos n) y (negsuc p) m e k h le = absurd (omega (arith, ints, le))
upper false (negsuc n) y (negsuc p) m e k h le = omega (arith, ints, mod-lt (suc n) k)

-- a number is no further from 0 than both limits of its range
within_most : (l h y : ℤ) → l ≤ℤ y → y ≤ℤ h → unsigned_abs y ≤ max (unsigned_abs l) (unsigned_abs h)
within_most l (pos m) (pos n) p q = omega (arith, ints, q)
within_most l (negsuc m) (pos n) p q = absurd (omega (arith, ints, q))
within_most (negsuc m) h (negsuc n) p q = omega (arith, ints, p)
within_most (pos m) h (negsuc n) p q = absurd (omega (arith, ints, p))

not_zero : (b : Range) (y : ℤ) → ¬ Holds b (pos 0) → Holds b y → 0 < unsigned_abs y
not_zero b (pos zero) n h = absurd (n h)
not_zero b (pos (suc k)) n h = omega arith
not_zero b (negsuc k) n h = omega arith

-- some divisor is not 0
pub most_is_above : (b : Range) → ¬ Holds b (pos 0) → 0 < max (unsigned_abs b.lo) (unsigned_abs b.hi)
most_is_above b n =
    let h : Holds b b.lo = record { low = omega (arith, ints); high = b.ordered } in let a = not_zero b b.lo n h in
    omega (arith, a)

-- all remainders lie in the range
pub holds_remainders : (a b r : Range) → ¬ Holds b (pos 0) → r.lo ≡ lower_remainder a b → r.hi ≡ upper_remainder a b
    → (z : ℤ)
    → IsRemainder a b z → Holds r z
holds_remainders a b r n p q z h =
    let k = not_zero b h.y n h.of_right in
    let w = within_most b.lo b.hi h.y h.of_right.low h.of_right.high in
    let m : unsigned_abs h.y ≤ most_left b + 1 = omega (arith, w, k) in
    let e : int_rem h.x h.y ≡ z = sym (remainder_is h.x h.y) ∙ h.is in
    record {
      low = rw p (subst (λ (v : ℤ). lower_remainder a b ≤ℤ v) e
          (lower (int_lt a.lo (pos 0)) h.x h.y a.lo (most_left b) refl k m h.of_left.low));
      high = rw q (subst (λ (v : ℤ). v ≤ℤ upper_remainder a b) e
          (upper (int_lt (pos 0) a.hi) h.x h.y a.hi (most_left b) refl k m h.of_left.high));
    }

below_0 : (t : Bool) (l : ℤ) (m : ℕ) → int_lt l (pos 0) ≡ t → cond t (int_max l (neg_ℤ (pos m))) (pos 0) ≤ℤ pos 0
below_0 true (pos p) m e = absurd (grind (arith, e))
below_0 true (negsuc p) m e = omega (arith, ints, clamps)
below_0 false l m e = omega (arith, ints)

above_0 : (t : Bool) (u : ℤ) (m : ℕ) → int_lt (pos 0) u ≡ t → pos 0 ≤ℤ cond t (int_min u (pos m)) (pos 0)
above_0 true (pos p) m e = omega (arith, ints, clamps)
above_0 true (negsuc p) m e = absurd (cc)
above_0 false u m e = omega (arith, ints)

pub lower_below_upper : (a b : Range) → lower_remainder a b ≤ℤ upper_remainder a b
lower_below_upper a b =
    let p = below_0 (int_lt a.lo (pos 0)) a.lo (most_left b) refl in
    let q = above_0 (int_lt (pos 0) a.hi) a.hi (most_left b) refl in
    omega (arith, ints, p, q)

pub lower_is : (l r : ℤ) (m : ℕ) → int_lt l (pos 0) ≡ true → r ≡ int_max l (neg_ℤ (pos m))
    → r ≡ cond (int_lt l (pos 0)) (int_max l (neg_ℤ (pos m))) (pos 0)
lower_is l r m t e = rw t e
