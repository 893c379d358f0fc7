-- Where each two values have a value no cause arises at an operator, and at kinds that it does not take together the
-- cause is wrong type.
use Rattle.std.proofs.Common.{◌≡◌, ℤ, Option, Some, None, IsSome, Result, Ok, Err, Bool, refl, sym, ap, subst}
use Rattle.std.specs.Prelude.{IsNone, ◌↔◌}
use Rattle.iltypes.specs.declared.range.Range.{Range}
use Rattle.iltypes.specs.declared.value.Value.{Value}
use Rattle.iltypes.specs.declared.value.Value.TheVariants as values
use Rattle.iltypes.specs.declared.operator.Operator.{Operator}
use Rattle.iltypes.specs.declared.operator.Operator.TheVariants as operators
use Rattle.iltypes.specs.Operators.{value_of_operator, quotient, modulo}
use Rattle.ilverify.specs.declared.cause.Cause.{Cause}
use Rattle.ilverify.specs.declared.cause.Cause.TheVariants as causes
use Rattle.ilverify.specs.declared.known.Known.{Known}
use Rattle.ilverify.specs.declared.known.Known.TheVariants as knowns
use Rattle.ilverify.specs.Causes.{IsLeastCause}
use Rattle.ilverify.specs.Knowns.{IsKnown}
use Rattle.ilverify.specs.Results.{DividesByZero, Arises}
use Rattle.ilverify.specs.ResultSteps.{IsVerdict}
use Rattle.ilverify.proofs.Causes.{one_cause, at_least_two}
use Rattle.ilverify.proofs.Knowns.{kind_of_known, example}

-- ---- values

pub not_both : (o : Option Value) → IsSome o → IsNone o → ⊥
not_both None s n = let k : ⊥ = cc in k
not_both (Some v) s n = let k : ⊥ = cc in k

zero_none : (operator : Operator) (x y : Value) → DividesByZero operator y → IsNone (value_of_operator operator x y)
zero_none operators.Div (values.Int x) (values.Int y) h = subst (λ (z : ℤ). IsNone (quotient x z)) (sym h) refl
zero_none operators.Mod (values.Int x) (values.Int y) h = subst (λ (z : ℤ). IsNone (modulo x z)) (sym h) refl
zero_none operators.Div (values.Bool x) (values.Int y) h = refl
zero_none operators.Mod (values.Bool x) (values.Int y) h = refl
zero_none _ x y h = absurd h

-- ---- an outcome of an operator

-- where each two values have a value no cause arises
pub refuted : (operator : Operator) (left right : Known)
    → ((x y : Value) → IsKnown x left → IsKnown y right → IsSome (value_of_operator operator x y)) → (cause : Cause)
    → ¬ Arises operator left right cause
refuted operator left right some causes.WrongType a =
    let x = example left in
    let y = example right in
    not_both (value_of_operator operator x.0 y.0) (some x.0 y.0 x.1 y.1)
    (a x.0 y.0 (kind_of_known x.0 left x.1) (kind_of_known y.0 right y.1))
refuted operator left right some causes.MayBeZero a =
    let x = example left in
    not_both (value_of_operator operator x.0 a.y) (some x.0 a.y x.1 a.of_right) (zero_none operator x.0 a.y a.is)
refuted operator left right some causes.TooBig a =
    not_both (value_of_operator operator a.x a.y) (some a.x a.y a.of_left a.of_right) a.none
refuted operator left right some _ a = absurd a

pub refused : (operator : Operator) (left right : Known) (result : Result Known Cause)
    → IsVerdict operator left right result → (cause : Cause)
    → (result ≡ Err cause) ↔ IsLeastCause (Arises operator left right) cause
refused operator left right (Ok known) h cause =
    (λ e. let k : ⊥ = cc in absurd k, λ l. absurd (refuted operator left right h.some cause l.arises))
refused operator left right (Err c) h cause = (
  λ e. let q : c ≡ cause = cc in subst (IsLeastCause (Arises operator left right)) q h,
  λ l. ap (λ (w : Cause). Err w) (one_cause (Arises operator left right) c cause (λ f a g b p q. absurd p) h l),
)

-- ---- kinds that no operator takes together

pub wrong_type : (operator : Operator) (left right : Known) → Arises operator left right causes.WrongType
    → IsLeastCause (Arises operator left right) causes.WrongType
wrong_type operator left right h = record {
  arises = h;
  least = λ other a. at_least_two other;
}

truth_and_number : (operator : Operator) (b : Bool) (z : ℤ)
    → IsNone (value_of_operator operator (values.Bool b) (values.Int z))
truth_and_number (operators.And negated) b z = refl
truth_and_number _ b z = refl

number_and_truth : (operator : Operator) (z : ℤ) (b : Bool)
    → IsNone (value_of_operator operator (values.Int z) (values.Bool b))
number_and_truth (operators.And negated) z b = refl
number_and_truth _ z b = refl

pub mixed : (operator : Operator) (range : Range) → Arises operator knowns.Bool (knowns.Int range) causes.WrongType
mixed operator range (values.Bool b) (values.Int z) p q = truth_and_number operator b z
mixed operator range (values.Bool b) (values.Bool c) p q = absurd q
mixed operator range (values.Int z) y p q = absurd p

pub mixed_round : (operator : Operator) (range : Range)
    → Arises operator (knowns.Int range) knowns.Bool causes.WrongType
mixed_round operator range (values.Int z) (values.Bool b) p q = number_and_truth operator z b
mixed_round operator range (values.Int z) (values.Int y) p q = absurd q
mixed_round operator range (values.Bool b) y p q = absurd p
