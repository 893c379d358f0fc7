-- The range of magnitudes.
use Rattle.std.proofs.Common.{◌≡◌, suc, ℤ, pos, negsuc, neg_ℤ, ◌≤ℤ◌, refl, subst, arith}
use Rattle.std.specs.Prelude.{unsigned_abs}
use Rattle.std.specs.Int.{int_max}
use Rattle.std.proofs.lemmas.Int.{ints, clamps}
use Rattle.iltypes.specs.declared.range.Range.{Range}
use Rattle.iltypes.specs.Arithmetic.{IsMagnitude}
use Rattle.iltypes.proofs.Limits.{HasLimits, of_max}

-- a number from low to high is that far from 0
record Reaches (low high far : ℤ) : Type 0 where
  x : ℤ
  from : low ≤ℤ x
  to : x ≤ℤ high
  is : pos (unsigned_abs x) ≡ far

nearest : (l h : ℤ) → l ≤ℤ h → Reaches l h (int_max (int_max l (pos 0)) (neg_ℤ h))
nearest (pos n) (pos m) le = record { x = pos n; from = omega (arith, ints); to = le; is = omega (arith, ints, clamps) }
nearest (pos n) (negsuc m) le = absurd (omega (arith, ints, le))
nearest (negsuc n) (pos m) le =
    record { x = pos 0; from = omega (arith, ints); to = omega (arith, ints); is = omega (arith, ints, clamps) }
nearest (negsuc n) (negsuc m) le =
    record { x = negsuc m; from = le; to = omega (arith, ints); is = omega (arith, ints, clamps) }

furthest : (l h : ℤ) → l ≤ℤ h → Reaches l h (int_max h (neg_ℤ l))
furthest (pos n) (pos m) le =
    record { x = pos m; from = le; to = omega (arith, ints); is = omega (arith, ints, clamps) }
furthest (pos n) (negsuc m) le = absurd (omega (arith, ints, le))
furthest (negsuc n) (pos m) le =
    of_max (Reaches (negsuc n) (pos m)) (pos m) (pos (suc n))
    (record { x = pos m; from = le; to = omega (arith, ints); is = refl })
    (record { x = negsuc n; from = omega (arith, ints); to = le; is = refl })
furthest (negsuc n) (negsuc m) le =
    record { x = negsuc n; from = omega (arith, ints); to = le; is = omega (arith, ints, clamps) }

between : (l h x : ℤ) → l ≤ℤ x → x ≤ℤ h
    → (int_max (int_max l (pos 0)) (neg_ℤ h) ≤ℤ pos (unsigned_abs x)) × (pos (unsigned_abs x) ≤ℤ int_max h (neg_ℤ l))
between l h (pos n) p q = (omega (arith, ints, clamps, p, q), omega (arith, ints, clamps, p, q))
between l h (negsuc n) p q = (omega (arith, ints, clamps, p, q), omega (arith, ints, clamps, p, q))

of_reaches : (a : Range) (far : ℤ) → Reaches a.lo a.hi far → IsMagnitude a far
of_reaches a far h = record { x = h.x; of_range = record { low = h.from; high = h.to }; is = h.is }

pub limits_magnitude : (a : Range)
    → HasLimits (IsMagnitude a) (int_max (int_max a.lo (pos 0)) (neg_ℤ a.hi)) (int_max a.hi (neg_ℤ a.lo))
limits_magnitude a = record {
  each = λ z h.
      subst (λ (v : ℤ). (int_max (int_max a.lo (pos 0)) (neg_ℤ a.hi) ≤ℤ v) × (v ≤ℤ int_max a.hi (neg_ℤ a.lo))) h.is
      (between a.lo a.hi h.x h.of_range.low h.of_range.high);
  least = of_reaches a _ (nearest a.lo a.hi a.ordered);
  most = of_reaches a _ (furthest a.lo a.hi a.ordered);
}
