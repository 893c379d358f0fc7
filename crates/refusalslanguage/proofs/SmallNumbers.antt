-- Results of small numbers, which have 64 bits.
use Rattle.std.proofs.Common.{◌≡◌, ◌∙◌, ℤ, pos, negsuc, ◌*ℤ◌, ◌≤ℤ◌, ◌⊎◌, inl, inr, FitsSigned, refl, sym, ap, subst}
use Rattle.std.proofs.Common.{arith, lit<}
use Rattle.std.specs.Prelude.{int_div}
use Rattle.std.specs.Int.{w64}
use Rattle.std.proofs.lemmas.Int.{ints}
use Rattle.iltypes.specs.Arithmetic.{IsProduct, IsQuotient, Leaves}
use Rattle.iltypes.specs.Ranges.{Holds}
use Rattle.iltypes.specs.declared.range.Range.{Range}
use Rattle.iltypes.proofs.Corners.{greatest_corner, least_corner, limits_product}
use Rattle.iltypes.proofs.Fitting.{fits_between}

-- no product of 2 or 3 and 4 or 5 leaves them
pub no_product_leaves : (left right : Range) → left.lo ≡ pos 2 → left.hi ≡ pos 3 → right.lo ≡ pos 4 → right.hi ≡ pos 5
    → ¬ Leaves (IsProduct left right)
no_product_leaves left right a b c d leaves =
    let least : least_corner (λ x y. x *ℤ y) left right ≡ pos 8 = rw (a, b, c, d) refl in
    let greatest : greatest_corner (λ x y. x *ℤ y) left right ≡ pos 15 = rw (a, b, c, d) refl in
    let within = (limits_product left right).each leaves.number leaves.is in
    let low = subst (λ (z : ℤ). z ≤ℤ leaves.number) least within.0 in
    let high = subst (λ (z : ℤ). leaves.number ≤ℤ z) greatest within.1 in
    leaves.out (fits_between (pos 8) (pos 15) leaves.number (record { sfits = lit< tt }) (record { sfits = lit< tt }) low high)

only : (x z low high : ℤ) → low ≡ z → high ≡ z → low ≤ℤ x → x ≤ℤ high → x ≡ z
only x z low high is its from to =
    let above = subst (λ (y : ℤ). y ≤ℤ x) is from in
    let below = subst (λ (y : ℤ). x ≤ℤ y) its to in
    omega (arith, ints, above, below)

-- 2 is no 0, and the quotient of -7 and 2 does not leave them
pub no_quotient_leaves : (left right : Range) → left.lo ≡ negsuc 6 → left.hi ≡ negsuc 6 → right.lo ≡ pos 2
    → right.hi ≡ pos 2 → ¬ (Holds right (pos 0) ⊎ Leaves (IsQuotient left right))
no_quotient_leaves left right a b c d (inl zero) =
    let two = only (pos 0) (pos 2) right.lo right.hi c d zero.low zero.high in absurd (omega (arith, ints, two))
no_quotient_leaves left right a b c d (inr leaves) =
    let from = leaves.is in
    let x = only from.x (negsuc 6) left.lo left.hi a b from.of_left.low from.of_left.high in
    let y = only from.y (pos 2) right.lo right.hi c d from.of_right.low from.of_right.high in
    let number : negsuc 2 ≡ leaves.number =
    sym (ap (λ (z : ℤ). int_div z from.y) x ∙ ap (λ (z : ℤ). int_div (negsuc 6) z) y) ∙ from.is in
    leaves.out (subst (FitsSigned w64) number (record { sfits = lit< tt }))
