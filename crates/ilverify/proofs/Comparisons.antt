-- The least range of the numbers of which a comparison holds, and of those of which the turned one holds.
use Rattle.std.proofs.Common.{◌≡◌, ◌∙◌, ℤ, pos, ◌+ℤ◌, ◌-ℤ◌, ◌≤ℤ◌, ◌<ℤ◌, ◌⊎◌, inl, inr, Option, Some, None, Bool, true}
use Rattle.std.proofs.Common.{false, refl, sym, ap, subst, arith, cond, zero, suc, negsuc}
use Rattle.std.specs.Prelude.{int_lt, int_le, not, IsTrue, int_div, ◌*ℤ◌}
use Rattle.std.specs.Int.{int_min, int_max}
use Rattle.std.specs.Ordering.{int_eq}
use Rattle.std.proofs.lemmas.Int.{ints, clamps}
use Rattle.std.proofs.lemmas.Bool.Decides.{Decides-int_eq}
use Rattle.iltypes.specs.declared.range.Range.{Range}
use Rattle.iltypes.specs.declared.value.Value.TheVariants as values
use Rattle.iltypes.specs.Arithmetic.{IsLeast, remainder}
use Rattle.iltypes.specs.declared.operator.Operator.{Operator}
use Rattle.iltypes.specs.declared.operator.Operator.TheVariants as operators
use Rattle.iltypes.specs.Operators.{value_of_operator, number, fits}
use Rattle.ilverify.specs.Comparisons.{IsPassing}
use Rattle.ilverify.specs.ComparisonSteps.{IsTested, IsLeastTested, IsLeastOf}
use Rattle.iltypes.specs.Comparisons.{compares, turned}
use Rattle.iltypes.proofs.Comparisons.{has_opposite_outcome, turned_back}

-- ---- the steps

pub kept_below : (r kept : Range) (limit : ℤ) → r.lo <ℤ limit → kept.lo ≡ r.lo
    → kept.hi ≡ int_min r.hi (limit -ℤ pos 1) → IsLeast (IsTested (λ z. z <ℤ limit) r) kept
kept_below r kept limit lt e f =
    let o = r.ordered in
    record {
      each = λ z p. record {
        low = omega (arith, ints, e, p.of_range.low);
        high = omega (arith, ints, clamps, f, p.of_range.high, p.test);
      };
      low = record {
        of_range = record { low = omega (arith, ints, e); high = omega (arith, ints, e, o) };
        test = omega (arith, ints, e, lt);
      };
      high = record {
        of_range = record { low = omega (arith, ints, clamps, f, o, lt); high = omega (arith, ints, clamps, f) };
        test = omega (arith, ints, clamps, f);
      };
    }

pub kept_from : (r kept : Range) (limit : ℤ) → limit ≤ℤ r.hi → kept.lo ≡ int_max r.lo limit → kept.hi ≡ r.hi
    → IsLeast (IsTested (λ z. limit ≤ℤ z) r) kept
kept_from r kept limit le e f =
    let o = r.ordered in
    record {
      each = λ z p. record {
        low = omega (arith, ints, clamps, e, p.of_range.low, p.test);
        high = omega (arith, ints, f, p.of_range.high);
      };
      low = record {
        of_range = record { low = omega (arith, ints, clamps, e); high = omega (arith, ints, clamps, e, o, le) };
        test = omega (arith, ints, clamps, e);
      };
      high = record {
        of_range = record { low = omega (arith, ints, f, o); high = omega (arith, ints, f) };
        test = omega (arith, ints, f, le);
      };
    }

pub kept_above : (r kept : Range) (limit : ℤ) → limit <ℤ r.hi → kept.lo ≡ int_max r.lo (limit +ℤ pos 1)
    → kept.hi ≡ r.hi → IsLeast (IsTested (λ z. limit <ℤ z) r) kept
kept_above r kept limit lt e f =
    let o = r.ordered in
    record {
      each = λ z p. record {
        low = omega (arith, ints, clamps, e, p.of_range.low, p.test);
        high = omega (arith, ints, f, p.of_range.high);
      };
      low = record {
        of_range = record { low = omega (arith, ints, clamps, e); high = omega (arith, ints, clamps, e, o, lt) };
        test = omega (arith, ints, clamps, e);
      };
      high = record {
        of_range = record { low = omega (arith, ints, f, o); high = omega (arith, ints, f) };
        test = omega (arith, ints, f, lt);
      };
    }

pub kept_up_to : (r kept : Range) (limit : ℤ) → r.lo ≤ℤ limit → kept.lo ≡ r.lo → kept.hi ≡ int_min r.hi limit
    → IsLeast (IsTested (λ z. z ≤ℤ limit) r) kept
kept_up_to r kept limit le e f =
    let o = r.ordered in
    record {
      each = λ z p. record {
        low = omega (arith, ints, e, p.of_range.low);
        high = omega (arith, ints, clamps, f, p.of_range.high, p.test);
      };
      low = record {
        of_range = record { low = omega (arith, ints, e); high = omega (arith, ints, e, o) };
        test = omega (arith, ints, e, le);
      };
      high = record {
        of_range = record { low = omega (arith, ints, clamps, f, o, le); high = omega (arith, ints, clamps, f) };
        test = omega (arith, ints, clamps, f);
      };
    }

-- ---- other words for a set

-- what one set has the other has
least_as : (One Other : ℤ → Type 0) (o : Option Range) → ((z : ℤ) → One z → Other z) → ((z : ℤ) → Other z → One z)
    → IsLeastOf One o → IsLeastOf Other o
least_as One Other (Some kept) to from h = record {
  each = λ z p. h.each z (from z p);
  low = to kept.lo h.low;
  high = to kept.hi h.high;
}
least_as One Other None to from h = λ z p. h z (from z p)

true_or_false : (b : Bool) → (b ≡ true) ⊎ (b ≡ false)
true_or_false true = inl refl
true_or_false false = inr refl

pub lt_from : (a b : ℤ) → int_lt a b ≡ true → a <ℤ b
lt_from a b h = grind (arith, ints)

pub ge_from : (a b : ℤ) → int_lt a b ≡ false → b ≤ℤ a
ge_from a b h = grind (arith, ints)

le_to : (a b : ℤ) → a ≤ℤ b → int_le a b ≡ true
le_to a b h = grind (arith, ints)

le_from : (a b : ℤ) → int_le a b ≡ true → a ≤ℤ b
le_from a b h = grind (arith, ints)

above_of : (l z : ℤ) → l ≤ℤ z → ¬ (z ≡ l) → l <ℤ z
above_of l z h n = elim (true_or_false (int_lt l z)) [
  | inl t ↦ lt_from l z t
  | inr f ↦ let g = ge_from l z f in absurd (n (omega (arith, ints, h, g)))
]

other_than : (a b : ℤ) → a <ℤ b → ¬ (a ≡ b)
other_than a b h e = let k : b <ℤ b = subst (λ (x : ℤ). x <ℤ b) e h in omega (arith, ints, k)

pub not_first : (r : Range) (o : Option Range) (l limit : ℤ) → l ≡ limit → r.lo ≡ limit
    → IsLeastTested (λ z. l <ℤ z) r o
    → IsLeastTested (λ z. ¬ (z ≡ limit)) r o
not_first r o l limit e s h =
    least_as (IsTested (λ z. l <ℤ z) r) (IsTested (λ z. ¬ (z ≡ limit)) r) o
    (λ z p. record { of_range = p.of_range; test = λ q. other_than l z p.test (e ∙ sym q) })
    (λ z p. record {
      of_range = p.of_range;
      test = subst (λ (x : ℤ). x <ℤ z) (sym e)
          (above_of limit z (subst (λ (x : ℤ). x ≤ℤ z) s p.of_range.low) p.test);
    }) h

pub not_last : (r : Range) (o : Option Range) (l limit : ℤ) → l ≡ limit → r.hi ≡ limit → IsLeastTested (λ z. z <ℤ l) r o
    → IsLeastTested (λ z. ¬ (z ≡ limit)) r o
not_last r o l limit e s h =
    least_as (IsTested (λ z. z <ℤ l) r) (IsTested (λ z. ¬ (z ≡ limit)) r) o
    (λ z p. record { of_range = p.of_range; test = λ q. other_than z l p.test (q ∙ sym e) })
    (λ z p. record {
      of_range = p.of_range;
      test = subst (λ (x : ℤ). z <ℤ x) (sym e)
          (above_of z limit (subst (λ (x : ℤ). z ≤ℤ x) s p.of_range.high) (λ q. p.test (sym q)));
    }) h

-- ---- the comparisons

truth_is : (a b : Bool) → a ≡ b → Some (values.Bool a) ≡ Some (values.Bool b)
truth_is a b e = ap (λ (t : Bool). Some (values.Bool t)) e

truth_of : (a b : Bool) → Some (values.Bool a) ≡ Some (values.Bool b) → a ≡ b
truth_of a b e = cc

passed : (comparison : Operator) (outcome : Bool) (limit : ℤ) (Test : ℤ → Type 0) (r : Range) (o : Option Range)
    → ((z : ℤ) → Test z → value_of_operator comparison (values.Int z) (values.Int limit) ≡ Some (values.Bool outcome))
    → ((z : ℤ) → value_of_operator comparison (values.Int z) (values.Int limit) ≡ Some (values.Bool outcome) → Test z)
    → IsLeastTested Test r o → IsLeastOf (IsPassing comparison outcome limit r) o
passed comparison outcome limit Test r o to from h =
    least_as (IsTested Test r) (IsPassing comparison outcome limit r) o
    (λ z p. record { of_range = p.of_range; is = to z p.test })
    (λ z p. record { of_range = p.of_range; test = from z p.is }) h

pub le_true : (r : Range) (o : Option Range) (l limit : ℤ) → l ≡ limit → IsLeastTested (λ z. z ≤ℤ l) r o
    → IsLeastOf (IsPassing operators.Le true limit r) o
le_true r o l limit e h =
    passed operators.Le true limit (λ z. z ≤ℤ limit) r o (λ z p. truth_is _ _ (le_to z limit p))
    (λ z p. le_from z limit (truth_of _ _ p)) (subst (λ (x : ℤ). IsLeastTested (λ z. z ≤ℤ x) r o) e h)

pub ge_true : (r : Range) (o : Option Range) (l limit : ℤ) → l ≡ limit → IsLeastTested (λ z. l ≤ℤ z) r o
    → IsLeastOf (IsPassing operators.Ge true limit r) o
ge_true r o l limit e h =
    passed operators.Ge true limit (λ z. limit ≤ℤ z) r o (λ z p. truth_is _ _ (le_to limit z p))
    (λ z p. le_from limit z (truth_of _ _ p)) (subst (λ (x : ℤ). IsLeastTested (λ z. x ≤ℤ z) r o) e h)

differs_to : (z l : ℤ) → ¬ (z ≡ l) → int_eq z l ≡ false
differs_to z l n = elim (true_or_false (int_eq z l)) [
  | inl t ↦ let d = Decides-int_eq z l in absurd (n (d.0 t))
  | inr f ↦ f
]

differs_from : (z l : ℤ) → int_eq z l ≡ false → ¬ (z ≡ l)
differs_from z l f e = let d = Decides-int_eq z l in let t = d.1 e in let k : ⊥ = cc in k

not_false : (b : Bool) → b ≡ false → not b ≡ true
not_false true e = cc
not_false false e = refl

of_not : (b : Bool) → not b ≡ true → b ≡ false
of_not true e = cc
of_not false e = refl

pub ne_true : (r : Range) (o : Option Range) (l limit : ℤ) → l ≡ limit → IsLeastTested (λ z. ¬ (z ≡ l)) r o
    → IsLeastOf (IsPassing operators.Ne true limit r) o
ne_true r o l limit e h =
    passed operators.Ne true limit (λ z. ¬ (z ≡ limit)) r o
    (λ z p. truth_is _ _ (not_false (int_eq z limit) (differs_to z limit p)))
    (λ z p. differs_from z limit (of_not (int_eq z limit) (truth_of _ _ p)))
    (subst (λ (x : ℤ). IsLeastTested (λ z. ¬ (z ≡ x)) r o) e h)

-- ---- the turned comparison

number_is_no_truth : (z : ℤ) (truth : Bool) → ¬ (number z ≡ Some (values.Bool truth))
number_is_no_truth z truth e = by (fits z) e
  where
    by : (b : Bool) → ¬ (cond b (Some (values.Int z)) None ≡ Some (values.Bool truth))
    by true e = let k : ⊥ = cc in k
    by false e = let k : ⊥ = cc in k

-- what has an outcome of two numbers is a comparison
pub is_comparison : (operator : Operator) (x y : ℤ) (outcome : Bool)
    → value_of_operator operator (values.Int x) (values.Int y) ≡ Some (values.Bool outcome)
    → IsTrue (compares operator)
is_comparison operators.Gt x y outcome e = refl
is_comparison operators.Ge x y outcome e = refl
is_comparison operators.Eq x y outcome e = refl
is_comparison operators.Ne x y outcome e = refl
is_comparison operators.Le x y outcome e = refl
is_comparison operators.Lt x y outcome e = refl
is_comparison operators.Add x y outcome e = absurd (number_is_no_truth (x +ℤ y) outcome e)
is_comparison operators.Sub x y outcome e = absurd (number_is_no_truth (x -ℤ y) outcome e)
is_comparison operators.Mul x y outcome e = absurd (number_is_no_truth (x *ℤ y) outcome e)
is_comparison operators.Div x (pos zero) outcome e = absurd (cc)
is_comparison operators.Div x (pos (suc n)) outcome e =
    absurd (number_is_no_truth (int_div x (pos (suc n))) outcome e)
is_comparison operators.Div x (negsuc n) outcome e =
    absurd (number_is_no_truth (int_div x (negsuc n)) outcome e)
is_comparison operators.Mod x (pos zero) outcome e = absurd (cc)
is_comparison operators.Mod x (pos (suc n)) outcome e =
    absurd (number_is_no_truth (remainder x (pos (suc n))) outcome e)
is_comparison operators.Mod x (negsuc n) outcome e =
    absurd (number_is_no_truth (remainder x (negsuc n)) outcome e)
is_comparison _ x y outcome e = absurd (cc)

-- where it holds of a number, the comparison does not
holds_turned : (comparison : Operator) (z limit : ℤ)
    → value_of_operator (turned comparison) (values.Int z) (values.Int limit) ≡ Some (values.Bool true)
    → value_of_operator comparison (values.Int z) (values.Int limit) ≡ Some (values.Bool false)
holds_turned comparison z limit e =
    subst (λ (c : Operator). value_of_operator c (values.Int z) (values.Int limit) ≡ Some (values.Bool false))
    (turned_back comparison)
    (has_opposite_outcome (turned comparison) z limit true (is_comparison (turned comparison) z limit true e) e)

-- so the numbers that do not pass are those of which it holds
pub not_held : (comparison : Operator) (l limit : ℤ) (r : Range) (o : Option Range) → l ≡ limit
    → IsLeastOf (IsPassing (turned comparison) true l r) o → IsLeastOf (IsPassing comparison false limit r) o
not_held comparison l limit r o e h =
    least_as (IsPassing (turned comparison) true limit r) (IsPassing comparison false limit r) o
    (λ z p. record { of_range = p.of_range; is = holds_turned comparison z limit p.is })
    (λ z p. record {
      of_range = p.of_range;
      is = has_opposite_outcome comparison z limit false (is_comparison comparison z limit false p.is) p.is;
    }) (subst (λ (x : ℤ). IsLeastOf (IsPassing (turned comparison) true x r) o) e h)
