-- After an operator on numbers is known the least range of its results, or the one cause why there is none.
use Rattle.std.proofs.Common.{◌≡◌, ◌∙◌, ℤ, pos, zero, suc, negsuc, ◌≤◌, FitsSigned, Option, Some, None, IsSome}
use Rattle.std.proofs.Common.{Bool, true, false, IsTrue, refl, ap, subst, arith}
use Rattle.std.specs.Prelude.{IsNone, IfSome, ◌↔◌, ◌+ℤ◌, ◌-ℤ◌, ◌*ℤ◌, int_div, if◌then◌else◌}
use Rattle.std.specs.Int.{w64, int_min, int_max}
use Rattle.std.proofs.lemmas.Bool.Decides.{nat_tests}
use Rattle.iltypes.specs.declared.range.Range.{Range}
use Rattle.iltypes.specs.declared.value.Value.{Value}
use Rattle.iltypes.specs.declared.value.Value.TheVariants as values
use Rattle.iltypes.specs.Ranges.{Holds}
use Rattle.iltypes.specs.Arithmetic as arithmetic
use Rattle.iltypes.proofs.Limits.{result}
use Rattle.iltypes.proofs.Fitting.{fits_between}
use Rattle.iltypes.specs.declared.operator.Operator.{Operator}
use Rattle.iltypes.specs.declared.operator.Operator.TheVariants as operators
use Rattle.iltypes.specs.Operators.{value_of_operator, quotient, modulo, fits, number}
use Rattle.ilverify.specs.declared.cause.Cause.{Cause}
use Rattle.ilverify.specs.declared.cause.Cause.TheVariants as causes
use Rattle.ilverify.specs.declared.known.Known.TheVariants as knowns
use Rattle.ilverify.specs.Causes.{refusal_number, IsLeastCause}
use Rattle.ilverify.specs.Knowns.{IsKnown, AreReached}
use Rattle.ilverify.specs.Results.{IsResult, IsClosest, IsAfter, IsWrongType, DividesByZero, Arises}
use Rattle.ilverify.specs.ResultSteps.{IsVerdict, verdict}

-- ---- numbers that fit

fits_of : (z : ℤ) → FitsSigned w64 z → IsTrue (fits z)
fits_of (pos n) h = grind (arith, nat_tests)
fits_of (negsuc n) h = grind (arith, nat_tests)

of_fits : (z : ℤ) → IsTrue (fits z) → FitsSigned w64 z
of_fits (pos n) h = record { sfits = grind (arith, nat_tests) }
of_fits (negsuc n) h = record { sfits = grind (arith, nat_tests) }

kept : (b : Bool) (v : Value) → ¬ ¬ IsTrue b → (if b then Some v else None) ≡ Some v
kept true v h = refl
kept false v h = absurd (h (λ t. let k : ⊥ = cc in k))

left_out : (b : Bool) (v : Value) → ¬ IsTrue b → IsNone (if b then Some v else None)
left_out true v h = absurd (h refl)
left_out false v h = refl

pub number_is : (z : ℤ) → ¬ ¬ FitsSigned w64 z → number z ≡ Some (values.Int z)
number_is z h = kept (fits z) (values.Int z) (λ n. h (λ f. n (fits_of z f)))

pub number_none : (z : ℤ) → ¬ FitsSigned w64 z → IsNone (number z)
number_none z h = left_out (fits z) (values.Int z) (λ t. h (of_fits z t))

-- ---- an operator that gives f of all numbers of the ranges

abbrev pub Gives : Operator → (ℤ → ℤ → ℤ) → Range → Range → Type 0
Gives operator f left right = (x y : ℤ) → Holds left x → Holds right y
    → value_of_operator operator (values.Int x) (values.Int y) ≡ Some (values.Int (f x y))

some_of : (operator : Operator) (f : ℤ → ℤ → ℤ) (left right : Range) → Gives operator f left right → (x y : Value)
    → IsKnown x (knowns.Int left) → IsKnown y (knowns.Int right) → IsSome (value_of_operator operator x y)
some_of operator f left right g (values.Int x) (values.Int y) p q = let e = g x y p q in rw e refl
some_of operator f left right g (values.Bool x) y p q = absurd p
some_of operator f left right g (values.Int x) (values.Bool y) p q = absurd q

each_of : (operator : Operator) (f : ℤ → ℤ → ℤ) (left right range : Range) → Gives operator f left right
    → ((z : ℤ) → arithmetic.IsResult f left right z → Holds range z) → (x y value : Value)
    → IsKnown x (knowns.Int left) → IsKnown y (knowns.Int right) → value_of_operator operator x y ≡ Some value
    → IsKnown value (knowns.Int range)
each_of operator f left right range g h (values.Int x) (values.Int y) value p q e =
    let k = g x y p q in
    let s : values.Int (f x y) ≡ value = cc in
    subst (λ (v : Value). IsKnown v (knowns.Int range)) s (h (f x y) (result f left right x y p q))
each_of operator f left right range g h (values.Bool x) y value p q e = absurd p
each_of operator f left right range g h (values.Int x) (values.Bool y) value p q e = absurd q

pub after_of : (operator : Operator) (f : ℤ → ℤ → ℤ) (left right range : Range) → Gives operator f left right
    → ((z : ℤ) → arithmetic.IsResult f left right z → Holds range z)
    → IsClosest operator (knowns.Int left) (knowns.Int right) (knowns.Int range)
    → IsAfter operator (knowns.Int left) (knowns.Int right) (knowns.Int range)
after_of operator f left right range g h closest = record {
  some = some_of operator f left right g;
  each = λ value r. each_of operator f left right range g h r.x r.y value r.of_left r.of_right r.is;
  closest = closest;
}

reached_of : (operator : Operator) (f : ℤ → ℤ → ℤ) (left right : Range) (z : ℤ) → Gives operator f left right
    → arithmetic.IsResult f left right z → IsResult operator (knowns.Int left) (knowns.Int right) (values.Int z)
reached_of operator f left right z g r = record {
  x = values.Int r.x;
  y = values.Int r.y;
  of_left = r.of_left;
  of_right = r.of_right;
  is = g r.x r.y r.of_left r.of_right ∙ ap (λ (n : ℤ). Some (values.Int n)) r.is;
}

pub reached : (operator : Operator) (f : ℤ → ℤ → ℤ) (left right range : Range) → Gives operator f left right
    → arithmetic.IsLeast (arithmetic.IsResult f left right) range
    → AreReached (IsResult operator (knowns.Int left) (knowns.Int right)) (knowns.Int range)
reached operator f left right range g h =
    (reached_of operator f left right range.lo g h.low, reached_of operator f left right range.hi g h.high)

-- ---- an operator that gives f where that fits

pub record Computes (operator : Operator) (f : ℤ → ℤ → ℤ) (left right : Range) : Type 0 where
  pub value : (x y : ℤ) → Holds left x → Holds right y
      → value_of_operator operator (values.Int x) (values.Int y) ≡ number (f x y)
  pub divisor : (y : ℤ) → Holds right y → ¬ DividesByZero operator (values.Int y)
  pub kinds : ¬ IsWrongType operator (knowns.Int left) (knowns.Int right)
  pub close : (range : Range) → AreReached (IsResult operator (knowns.Int left) (knowns.Int right)) (knowns.Int range)
      → IsClosest operator (knowns.Int left) (knowns.Int right) (knowns.Int range)

no_zero : (operator : Operator) (f : ℤ → ℤ → ℤ) (left right : Range) → Computes operator f left right → (y : Value)
    → IsKnown y (knowns.Int right) → ¬ DividesByZero operator y
no_zero operator f left right c (values.Int y) p = c.divisor y p
no_zero operator f left right c (values.Bool y) p = absurd p

least_too_big : (operator : Operator) (f : ℤ → ℤ → ℤ) (left right : Range) → Computes operator f left right
    → (other : Cause) → Arises operator (knowns.Int left) (knowns.Int right) other
    → refusal_number causes.TooBig ≤ refusal_number other
least_too_big operator f left right c causes.WrongType a = absurd (c.kinds a)
least_too_big operator f left right c causes.MayBeZero a = absurd (no_zero operator f left right c a.y a.of_right a.is)
least_too_big operator f left right c causes.TooBig a = omega arith
least_too_big operator f left right c _ a = absurd a

pub verdict_of : (operator : Operator) (f : ℤ → ℤ → ℤ) (left right : Range) (o : Option Range)
    → Computes operator f left right
    → (IsNone o ↔ arithmetic.Leaves (arithmetic.IsResult f left right))
    → IfSome o (arithmetic.IsLeast (arithmetic.IsResult f left right))
    → IsVerdict operator (knowns.Int left) (knowns.Int right) (verdict o)
verdict_of operator f left right (Some range) c none least =
    let gives : Gives operator f left right = λ x y p q.
    c.value x y p q
    ∙ number_is (f x y) (λ out. let n = none.1 (record {
      number = f x y;
      is = result f left right x y p q;
      out = out;
    }) in let k : ⊥ = cc in k) in
    after_of operator f left right range gives least.each
    (c.close range (reached operator f left right range gives least))
verdict_of operator f left right None c none least =
    let l = none.0 refl in
    let r = l.is in
    record {
      arises = record {
        kinds = c.kinds;
        x = values.Int r.x;
        y = values.Int r.y;
        of_left = r.of_left;
        of_right = r.of_right;
        divisor = c.divisor r.y r.of_right;
        none = rw (c.value r.x r.y r.of_left r.of_right) (number_none (f r.x r.y) (λ h. l.out (subst
            (FitsSigned w64) r.is h)));
      };
      least = least_too_big operator f left right c;
    }

-- ---- the operators

pub sums : (left right : Range) → Computes operators.Add (λ x y. x +ℤ y) left right
sums left right = record {
  value = λ x y p q. refl;
  divisor = λ y p h. h;
  kinds = λ h. let n = h (values.Int (pos 1)) (values.Int (pos 1)) tt tt in let k : ⊥ = cc in k;
  close = λ range h. h;
}

pub differences : (left right : Range) → Computes operators.Sub (λ x y. x -ℤ y) left right
differences left right = record {
  value = λ x y p q. refl;
  divisor = λ y p h. h;
  kinds = λ h. let n = h (values.Int (pos 1)) (values.Int (pos 1)) tt tt in let k : ⊥ = cc in k;
  close = λ range h. h;
}

pub products : (left right : Range) → Computes operators.Mul (λ x y. x *ℤ y) left right
products left right = record {
  value = λ x y p q. refl;
  divisor = λ y p h. h;
  kinds = λ h. let n = h (values.Int (pos 1)) (values.Int (pos 1)) tt tt in let k : ⊥ = cc in k;
  close = λ range h. h;
}

quotient_is : (x y : ℤ) → ¬ (y ≡ pos 0) → quotient x y ≡ number (int_div x y)
quotient_is x (pos zero) n = absurd (n refl)
quotient_is x (pos (suc k)) n = refl
quotient_is x (negsuc k) n = refl

remainder_is : (x y : ℤ) → ¬ (y ≡ pos 0) → modulo x y ≡ number (arithmetic.remainder x y)
remainder_is x (pos zero) n = absurd (n refl)
remainder_is x (pos (suc k)) n = refl
remainder_is x (negsuc k) n = refl

not_zero : (right : Range) (y : ℤ) → ¬ Holds right (pos 0) → Holds right y → ¬ (y ≡ pos 0)
not_zero right y n p e = n (subst (Holds right) e p)

pub quotients : (left right : Range) → ¬ Holds right (pos 0) → Computes operators.Div int_div left right
quotients left right n = record {
  value = λ x y p q. quotient_is x y (not_zero right y n q);
  divisor = λ y p h. not_zero right y n p h;
  kinds = λ h. let n = h (values.Int (pos 1)) (values.Int (pos 1)) tt tt in let k : ⊥ = cc in k;
  close = λ range h. h;
}

-- ---- a divisor that may be 0

least_by_zero : (operator : Operator) (left right : Range)
    → ¬ IsWrongType operator (knowns.Int left) (knowns.Int right) → (other : Cause)
    → Arises operator (knowns.Int left) (knowns.Int right) other
    → refusal_number causes.MayBeZero ≤ refusal_number other
least_by_zero operator left right n causes.WrongType a = absurd (n a)
least_by_zero operator left right n causes.MayBeZero a = omega arith
least_by_zero operator left right n causes.TooBig a = omega arith
least_by_zero operator left right n _ a = absurd a

pub div_by_zero : (left right : Range) → Holds right (pos 0)
    → IsLeastCause (Arises operators.Div (knowns.Int left) (knowns.Int right)) causes.MayBeZero
div_by_zero left right h = record {
  arises = record { y = values.Int (pos 0); of_right = h; is = refl };
  least = least_by_zero operators.Div left right (λ w. let n = w (values.Int (pos 1)) (values.Int (pos 1)) tt tt in
      let k : ⊥ = cc in k);
}

pub mod_by_zero : (left right : Range) → Holds right (pos 0)
    → IsLeastCause (Arises operators.Mod (knowns.Int left) (knowns.Int right)) causes.MayBeZero
mod_by_zero left right h = record {
  arises = record { y = values.Int (pos 0); of_right = h; is = refl };
  least = least_by_zero operators.Mod left right (λ w. let n = w (values.Int (pos 1)) (values.Int (pos 1)) tt tt in
      let k : ⊥ = cc in k);
}

pub mod_of : (left right range : Range) → FitsSigned w64 range.lo → FitsSigned w64 range.hi → ¬ Holds right (pos 0)
    → range.lo ≡ arithmetic.lower_remainder left right → range.hi ≡ arithmetic.upper_remainder left right
    → ((z : ℤ) → arithmetic.IsRemainder left right z → Holds range z)
    → IsAfter operators.Mod (knowns.Int left) (knowns.Int right) (knowns.Int range)
mod_of left right range a b n low high each =
    after_of operators.Mod arithmetic.remainder left right range (λ x y p q.
    let z = arithmetic.remainder x y in
    let h = each z (result arithmetic.remainder left right x y p q) in
    remainder_is x y (not_zero right y n q)
    ∙ number_is z (λ out. out (fits_between range.lo range.hi z a b h.low h.high)))
    each (low, high)

pub min_of : (left right range : Range) → arithmetic.IsLeast (arithmetic.IsLesser left right) range
    → IsAfter operators.Min (knowns.Int left) (knowns.Int right) (knowns.Int range)
min_of left right range h =
    let gives : Gives operators.Min int_min left right = λ x y p q. refl in
    after_of operators.Min int_min left right range gives h.each
    (reached operators.Min int_min left right range gives h)

pub max_of : (left right range : Range) → arithmetic.IsLeast (arithmetic.IsGreater left right) range
    → IsAfter operators.Max (knowns.Int left) (knowns.Int right) (knowns.Int range)
max_of left right range h =
    let gives : Gives operators.Max int_max left right = λ x y p q. refl in
    after_of operators.Max int_max left right range gives h.each
    (reached operators.Max int_max left right range gives h)
