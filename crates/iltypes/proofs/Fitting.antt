-- Ranges from limits, where these have 64 signed bits.
use Rattle.std.proofs.Common.{◌≡◌, ℤ, pos, negsuc, ◌≤ℤ◌, ◌⊎◌, inl, inr, FitsSigned, Option, Some, None, refl, subst}
use Rattle.std.proofs.Common.{◌∙◌, arith}
use Rattle.std.specs.Prelude.{IsNone, IfSome, ◌↔◌}
use Rattle.std.specs.Int.{w64, w128, Width, cast_signed, cast_unsigned}
use Rattle.std.proofs.lemmas.Int.{ints, to_z-of_z}
use Rattle.iltypes.specs.declared.range.Range.{Range}
use Rattle.iltypes.specs.Arithmetic.{IsLeast, Leaves}
use Rattle.iltypes.specs.RangeSteps.{IsRangeOf}
use Rattle.iltypes.proofs.Limits.{HasLimits, least_is}

-- what lies between numbers of 64 bits has 64 bits
pub fits_between : (low high z : ℤ) → FitsSigned w64 low → FitsSigned w64 high → low ≤ℤ z → z ≤ℤ high → FitsSigned w64 z
fits_between low (pos h) (pos n) f g p q = let s = g.sfits in record { sfits = omega (arith, ints, s, q) }
fits_between low (negsuc h) (pos n) f g p q = absurd (omega (arith, ints, q))
fits_between (negsuc l) high (negsuc n) f g p q = let s = f.sfits in record { sfits = omega (arith, ints, s, p) }
fits_between (pos l) high (negsuc n) f g p q = absurd (omega (arith, ints, p))

-- the least range, or none where a number leaves 64 bits
abbrev pub IsLeastIfAny : (ℤ → Type 0) → Option Range → Type 0
IsLeastIfAny IsOfSet (Some range) = IsLeast IsOfSet range × ¬ Leaves IsOfSet
IsLeastIfAny IsOfSet None = Leaves IsOfSet

pub least_if_any : (IsOfSet : ℤ → Type 0) (low high low' high' : ℤ) (o : Option Range) → low ≡ low' → high ≡ high'
    → HasLimits IsOfSet low' high' → IsRangeOf low high o → IsLeastIfAny IsOfSet o
least_if_any IsOfSet low high low' high' (Some range) p q h s = (
  least_is IsOfSet range low' high' (s.0 ∙ p) (s.1 ∙ q) h,
  λ l. l.out (fits_between low' high' l.number (subst (FitsSigned w64) p s.2) (subst (FitsSigned w64) q s.3)
      (h.each l.number l.is).0 (h.each l.number l.is).1),
)
least_if_any IsOfSet low high low' high' None p q h (inl out) =
    record { number = low'; is = h.least; out = subst (λ (z : ℤ). ¬ FitsSigned w64 z) p out }
least_if_any IsOfSet low high low' high' None p q h (inr out) =
    record { number = high'; is = h.most; out = subst (λ (z : ℤ). ¬ FitsSigned w64 z) q out }

pub some_is_least : (IsOfSet : ℤ → Type 0) (o : Option Range) → IsLeastIfAny IsOfSet o → IfSome o (IsLeast IsOfSet)
some_is_least IsOfSet (Some range) h = h.0
some_is_least IsOfSet None h = tt

pub none_leaves : (IsOfSet : ℤ → Type 0) (o : Option Range) → IsLeastIfAny IsOfSet o → IsNone o ↔ Leaves IsOfSet
none_leaves IsOfSet (Some range) h = (λ n. absurd (cc), λ l. absurd (h.1 l))
none_leaves IsOfSet None h = (λ n. h, λ l. refl)

-- the same of a quotient, where no divisor is 0
pub none_at_zero : (Zero : Type 0) (IsOfSet : ℤ → Type 0) (o : Option Range) → ¬ Zero → IsLeastIfAny IsOfSet o
    → IsNone o ↔ (Zero ⊎ Leaves IsOfSet)
none_at_zero Zero IsOfSet (Some range) n h =
    (λ e. absurd (cc), λ l. elim l [ inl z ↦ absurd (n z) | inr out ↦ absurd (h.1 out) ])
none_at_zero Zero IsOfSet None n h = (λ e. inr h, λ l. refl)

-- ---- numbers that went to bits and are read again

pub again : (w : Width) (z z' : ℤ) → FitsSigned w z → z ≡ z' → cast_signed w (cast_unsigned w z) ≡ z'
again w z z' f e = to_z-of_z w z f ∙ e

pub range_is : (low high low' high' : ℤ) (o : Option Range) → low ≡ low' → high ≡ high' → IsRangeOf low high o
    → IsRangeOf low' high' o
range_is low high low' high' o p q h = rw (← p, ← q) h

pub four_again : (F : ℤ → ℤ → ℤ → ℤ → ℤ) (a b c d a' b' c' d' r : ℤ) → a ≡ a' → b ≡ b' → c ≡ c' → d ≡ d' → r ≡ F a b c d
    → r ≡ F a' b' c' d'
four_again F a b c d a' b' c' d' r p q s t e = e ∙ (λ i. F (p i) (q i) (s i) (t i))

pub two_again : (f : ℤ → ℤ → ℤ) (x y r : ℤ) → FitsSigned w64 x → FitsSigned w64 y → FitsSigned w128 r
    → r ≡ f (cast_signed w64 (cast_unsigned w64 x)) (cast_signed w64 (cast_unsigned w64 y)) → cast_signed w128
    (cast_unsigned w128 r) ≡ f x y
two_again f x y r p q s e = again w128 r (f x y) s (e ∙ (λ i. f (to_z-of_z w64 x p i) (to_z-of_z w64 y q i)))
