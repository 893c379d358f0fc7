-- Numbers that fit, and what a division leaves.
use Rattle.std.proofs.Common.{◌≡◌, refl, ap, ◌∙◌, arith, zero, suc, ◌<◌, Bool, true, false, IsTrue, ◌↔◌}
use Rattle.std.proofs.Common.{ℤ, pos, negsuc, ◌+ℤ◌, ◌-ℤ◌, ◌*ℤ◌, FitsSigned, of_z, to_z, w64}
use Rattle.std.proofs.Common.{Option, Some, None, IsSome, is_some, SomeIff}
use Rattle.std.specs.Prelude.{neg_ℤ, int_le, ◌&&◌, not, nat_eq, ◌≤◌, unsigned_abs, int_div, int_rem, if◌then◌else◌}
use Rattle.std.specs.Int.{CanDivide}
use Rattle.std.proofs.lemmas.Bool.Decides.{nat_tests}
use Rattle.std.proofs.lemmas.Int.{ints, quot-rem, to_z-of_z, rem_below, fits_signed_from_abs}
use Rattle.iltypes.specs.Ranges.{Holds}
use Rattle.iltypes.specs.declared.range.Range.{Range}
use Rattle.iltypes.specs.declared.value.Value.{Value}
use Rattle.iltypes.specs.declared.value.Value.TheVariants as values
use Rattle.iltypes.specs.Arithmetic.{remainder}
use Rattle.iltypes.specs.Operators.{fits, number, quotient, modulo}
use Rattle.iltypes.specs.Functions.{least_of, greatest_of, converted}
use Rattle.iltypes.specs.declared.function.IntegerType.{IntegerType}

-- what is kept by a test is what was tested
kept : (b : Bool) (v : Value) → IsSome (if b then Some v else None) → (if b then Some v else None) ≡ Some v
kept true v h = refl
kept false v h = cc

number_is : (z : ℤ) → IsSome (number z) → number z ≡ Some (values.Int z)
number_is z h = kept (fits z) (values.Int z) h

left_over : (q r a : ℤ) → q +ℤ r ≡ a → a -ℤ q ≡ r
left_over q r a e = omega (arith, ints)

rest_is : (left right : ℤ) → remainder left right ≡ int_rem left right
rest_is left right = left_over (int_div left right *ℤ right) (int_rem left right) left (quot-rem left right)

rest_value : (left right : ℤ) → IsSome (number (remainder left right))
    → number (remainder left right) ≡ Some (values.Int (int_rem left right))
rest_value left right h = number_is (remainder left right) h ∙ ap (λ (z : ℤ). Some (values.Int z)) (rest_is left right)

-- what MOD gives is what `%` gives
pub remainder_is : (left right : ℤ) → IsSome (modulo left right)
    → modulo left right ≡ Some (values.Int (int_rem left right))
remainder_is left (pos zero) h = cc
remainder_is left (pos (suc n)) h = rest_value left (pos (suc n)) h
remainder_is left (negsuc n) h = rest_value left (negsuc n) h

-- the same of numbers that went through their bits
pub rest_given : (left right left_over : ℤ) → FitsSigned w64 left → FitsSigned w64 right → FitsSigned w64 left_over
    → IsSome (modulo left right) → left_over ≡ int_rem (to_z w64 (of_z w64 left)) (to_z w64 (of_z w64 right))
    → modulo left right ≡ Some (values.Int (to_z w64 (of_z w64 left_over)))
rest_given left right left_over a b c h e =
    let l = to_z-of_z w64 left a in
    let r = to_z-of_z w64 right b in
    let q = to_z-of_z w64 left_over c in
    let m = remainder_is left right h in
    rw (q, e, l, r) m

fits_of : (z : ℤ) → FitsSigned w64 z → IsTrue (fits z)
fits_of (pos n) h = grind (arith, nat_tests)
fits_of (negsuc n) h = grind (arith, nat_tests)

of_fits : (z : ℤ) → IsTrue (fits z) → FitsSigned w64 z
of_fits (pos n) h = record { sfits = grind (arith, nat_tests) }
of_fits (negsuc n) h = record { sfits = grind (arith, nat_tests) }

some_of : (b : Bool) (v : Value) → IsTrue b → IsSome (if b then Some v else None)
some_of true v h = refl
some_of false v h = cc

of_some : (b : Bool) (v : Value) → IsSome (if b then Some v else None) → IsTrue b
of_some true v h = refl
of_some false v h = h

-- a test that decides whether a number fits decides whether it is a value
checked : (o : Option ℤ) (P : Type 0) (z : ℤ) → SomeIff o P z → (P → FitsSigned w64 z) → (FitsSigned w64 z → P)
    → IsTrue (is_some o) ↔ IsSome (number z)
checked None P z h to from =
    (λ e. let k : ⊥ = cc in absurd k, λ s. absurd (h (from (of_fits z (of_some (fits z) (values.Int z) s)))))
checked (Some x) P z h to from = (λ e. some_of (fits z) (values.Int z) (fits_of z (to h.0)), λ s. refl)

pub sum_checked : (o : Option ℤ) (z : ℤ) → SomeIff o (FitsSigned w64 z) z → IsTrue (is_some o) ↔ IsSome (number z)
sum_checked o z h = checked o (FitsSigned w64 z) z h (λ p. p) (λ p. p)

-- a quotient, by a divisor that is not 0
pub quotient_checked : (o : Option ℤ) (left right : ℤ) → FitsSigned w64 right
    → SomeIff o (CanDivide w64 left right) (int_div left right)
    → IsTrue (is_some o) ↔ IsSome (quotient left right)
quotient_checked None left (pos zero) f h = (λ e. e, λ e. e)
quotient_checked (Some x) left (pos zero) f h = let k : ⊥ = absurd (omega (arith, h.0.0)) in absurd k
quotient_checked o left (pos (suc n)) f h =
    checked o (CanDivide w64 left (pos (suc n))) (int_div left (pos (suc n))) h (λ p. p.1) (λ p. (omega arith, p))
quotient_checked o left (negsuc n) f h =
    let below : n < 9223372036854775808 = f.sfits in
    checked o (CanDivide w64 left (negsuc n)) (int_div left (negsuc n)) h (λ p. p.1) (λ p. (omega arith, p))

-- what is left is smaller than the divisor, so it fits
rest_fits : (left right : ℤ) → 0 < unsigned_abs right → unsigned_abs right ≤ 9223372036854775808
    → IsSome (number (remainder left right))
rest_fits left right h k =
    let below = rem_below left right h in
    let e = rest_is left right in
    let small : unsigned_abs (int_rem left right) < 9223372036854775808 = omega arith in
    let z = int_rem left right in
    rw e (some_of (fits z) (values.Int z) (fits_of z (fits_signed_from_abs w64 z small)))

-- MOD has a value at each divisor but 0
pub has_remainder : (left right : ℤ) → FitsSigned w64 right
    → IsTrue (not (nat_eq (of_z w64 right) 0)) ↔ IsSome (modulo left right)
has_remainder left (pos zero) f = (λ e. e, λ e. e)
has_remainder left (pos (suc n)) f =
    let below : suc n < 9223372036854775808 = f.sfits in
    (λ e. rest_fits left (pos (suc n)) (omega arith) (omega arith), λ e. grind (arith, nat_tests))
has_remainder left (negsuc n) f =
    let below : n < 9223372036854775808 = f.sfits in
    (λ e. rest_fits left (negsuc n) (omega arith) (omega arith), λ e. grind (arith, nat_tests))

-- ABS fits where the negative number does
pub magnitude_checked : (o : Option ℤ) (z : ℤ) → FitsSigned w64 z
    → SomeIff o (FitsSigned w64 (neg_ℤ z)) (pos (unsigned_abs z))
    → IsTrue (is_some o) ↔ IsSome (number (pos (unsigned_abs z)))
magnitude_checked o (pos zero) f h = checked o (FitsSigned w64 (pos 0)) (pos 0) h (λ p. p) (λ p. p)
magnitude_checked o (pos (suc n)) f h =
    checked o (FitsSigned w64 (negsuc n)) (pos (suc n)) h (λ p. f)
    (λ p. let below : suc n < 9223372036854775808 = p.sfits in record { sfits = omega arith })
magnitude_checked o (negsuc n) f h = checked o (FitsSigned w64 (pos (suc n))) (pos (suc n)) h (λ p. p) (λ p. p)

-- a conversion keeps what its type holds
pub conversion_checked : (b : Bool) (range : Range) (type : IntegerType) (z : ℤ)
    → (IsTrue b ↔ Holds range z) → range.lo ≡ least_of type → range.hi ≡ greatest_of type
    → IsTrue b ↔ IsSome (converted type z)
conversion_checked b range type z h lo hi =
    let test = int_le (least_of type) z && int_le z (greatest_of type) in (
      λ e. some_of test (values.Int z) (grind (arith, ints, h.0 e)),
      λ s. h.1 (
          let t = of_some test (values.Int z) s in
          record { low = grind (arith, ints); high = grind (arith, ints) }
          ),
    )
