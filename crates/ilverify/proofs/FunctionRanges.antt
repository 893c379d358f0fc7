-- After ABS and a conversion is known the least that holds all that they give, and a refusal has one cause.
use Rattle.std.proofs.Common.{◌≡◌, ◌∙◌, ℤ, pos, ◌≤◌, ◌≤ℤ◌, FitsSigned, Option}
use Rattle.std.proofs.Common.{Some, None, IsSome, Result, Ok, Err, Bool, true, false}
use Rattle.std.proofs.Common.{IsTrue, refl, sym, ap, subst, arith}
use Rattle.std.specs.Prelude.{IsNone, IfSome, ◌↔◌, ◌&&◌, int_le, unsigned_abs, if◌then◌else◌}
use Rattle.std.specs.Int.{w64}
use Rattle.std.proofs.lemmas.Int.{ints}
use Rattle.iltypes.specs.declared.range.Range.{Range}
use Rattle.iltypes.specs.declared.value.Value.{Value}
use Rattle.iltypes.specs.declared.value.Value.TheVariants as values
use Rattle.iltypes.specs.Ranges.{Holds, IsWithin}
use Rattle.iltypes.specs.Arithmetic.{IsMagnitude, IsLeast, Leaves}
use Rattle.iltypes.proofs.Equality.{same_limits}
use Rattle.iltypes.proofs.Limits.{holds_low, holds_high}
use Rattle.iltypes.specs.declared.function.Function.{Function}
use Rattle.iltypes.specs.declared.function.Function.TheVariants as functions
use Rattle.iltypes.specs.declared.function.IntegerType.{IntegerType}
use Rattle.iltypes.specs.declared.function.IntegerType.TheVariants as types
use Rattle.iltypes.specs.Functions.{value_of_function, least_of, greatest_of}
use Rattle.ilverify.specs.declared.cause.Cause.{Cause}
use Rattle.ilverify.specs.declared.cause.Cause.TheVariants as causes
use Rattle.ilverify.specs.declared.known.Known.{Known}
use Rattle.ilverify.specs.declared.known.Known.TheVariants as knowns
use Rattle.ilverify.specs.Causes.{refusal_number, IsLeastCause}
use Rattle.ilverify.specs.Knowns.{IsKnown, only, known_of_value}
use Rattle.ilverify.specs.Functions.{IsGiven, IsAfterFunction, IsWrongTypeFor, IsOutOfType, ArisesAtFunction}
use Rattle.ilverify.specs.FunctionSteps.{IsFunctionVerdict}
use Rattle.ilverify.specs.ResultSteps.{verdict}
use Rattle.ilverify.proofs.ResultCauses.{not_both}
use Rattle.ilverify.proofs.Causes.{one_cause}
use Rattle.ilverify.proofs.Knowns.{kind_of_known, example}
use Rattle.ilverify.proofs.ResultRanges.{number_is, number_none}

-- ---- a function that gives f of all numbers of the range

abbrev pub GivesEach : Function → (ℤ → ℤ) → Range → Type 0
GivesEach function f range =
    (x : ℤ) → Holds range x → value_of_function function (values.Int x) ≡ Some (values.Int (f x))

some_of : (function : Function) (f : ℤ → ℤ) (range : Range) → GivesEach function f range → (x : Value)
    → IsKnown x (knowns.Int range) → IsSome (value_of_function function x)
some_of function f range g (values.Int x) p = let e = g x p in rw e refl
some_of function f range g (values.Bool x) p = absurd p

each_of : (function : Function) (f : ℤ → ℤ) (range given : Range) → GivesEach function f range
    → ((x : ℤ) → Holds range x → Holds given (f x)) → (x value : Value) → IsKnown x (knowns.Int range)
    → value_of_function function x ≡ Some value → IsKnown value (knowns.Int given)
each_of function f range given g h (values.Int x) value p e =
    let k = g x p in
    let s : values.Int (f x) ≡ value = cc in
    subst (λ (v : Value). IsKnown v (knowns.Int given)) s (h x p)
each_of function f range given g h (values.Bool x) value p e = absurd p

after_of : (function : Function) (f : ℤ → ℤ) (range given : Range) → GivesEach function f range
    → ((x : ℤ) → Holds range x → Holds given (f x))
    → IsGiven function (knowns.Int range) (values.Int given.lo)
    → IsGiven function (knowns.Int range) (values.Int given.hi)
    → IsAfterFunction function (knowns.Int range) (knowns.Int given)
after_of function f range given g h low high = record {
  some = some_of function f range g;
  each = λ value r. each_of function f range given g h r.x value r.of_operand r.is;
  closest = (low, high);
}

-- ---- ABS

magnitude_given : (range : Range) (z : ℤ) → GivesEach functions.Abs (λ x. pos (unsigned_abs x)) range
    → IsMagnitude range z → IsGiven functions.Abs (knowns.Int range) (values.Int z)
magnitude_given range z g m = record {
  x = values.Int m.x;
  of_operand = m.of_range;
  is = g m.x m.of_range ∙ ap (λ (n : ℤ). Some (values.Int n)) m.is;
}

abs_takes : (range : Range) → ¬ IsWrongTypeFor functions.Abs (knowns.Int range)
abs_takes range h = let n = h (values.Int (pos 1)) tt in let k : ⊥ = cc in k

least_too_big : (range : Range) (other : Cause) → ArisesAtFunction functions.Abs (knowns.Int range) other
    → refusal_number causes.TooBig ≤ refusal_number other
least_too_big range causes.WrongType a = absurd (abs_takes range a)
least_too_big range causes.TooBig a = omega arith
least_too_big range _ a = absurd a

pub abs_of : (range : Range) (o : Option Range) → (IsNone o ↔ Leaves (IsMagnitude range))
    → IfSome o (IsLeast (IsMagnitude range)) → IsFunctionVerdict functions.Abs (knowns.Int range) (verdict o)
abs_of range (Some given) none least =
    let of_range : (x : ℤ) → Holds range x → IsMagnitude range (pos (unsigned_abs x)) = λ x p.
    record { x = x; of_range = p; is = refl } in
    let gives : GivesEach functions.Abs (λ x. pos (unsigned_abs x)) range = λ x p.
    number_is (pos (unsigned_abs x)) (λ out. let n = none.1 (record {
      number = pos (unsigned_abs x);
      is = of_range x p;
      out = out;
    }) in let k : ⊥ = cc in k) in
    after_of functions.Abs (λ x. pos (unsigned_abs x)) range given gives
    (λ x p. least.each (pos (unsigned_abs x)) (of_range x p)) (magnitude_given range given.lo gives least.low)
    (magnitude_given range given.hi gives least.high)
abs_of range None none least =
    let l = none.0 refl in
    record {
      arises = record {
        kind = abs_takes range;
        x = values.Int l.is.x;
        of_operand = l.is.of_range;
        none = number_none (pos (unsigned_abs l.is.x)) (λ h. l.out (subst (FitsSigned w64) l.is.is h));
      };
      least = least_too_big range;
    }

-- ---- conversions

some_if : (b : Bool) (v : Value) → IsTrue b → (if b then Some v else None) ≡ Some v
some_if true v h = refl
some_if false v h = cc

of_some : (b : Bool) (v : Value) → IsSome (if b then Some v else None) → IsTrue b
of_some true v h = refl
of_some false v h = h

-- the number is of the type
between : (low high z : ℤ) → low ≤ℤ z → z ≤ℤ high → IsTrue (int_le low z && int_le z high)
between low high z p q = grind (arith, ints)

low_of : (low high z : ℤ) → IsTrue (int_le low z && int_le z high) → low ≤ℤ z
low_of low high z h = grind (arith, ints)

high_of : (low high z : ℤ) → IsTrue (int_le low z && int_le z high) → z ≤ℤ high
high_of low high z h = grind (arith, ints)

pub convert_kept : (type : IntegerType) (found allowed : Range) → allowed.lo ≡ least_of type
    → allowed.hi ≡ greatest_of type → IsWithin found allowed
    → IsAfterFunction (functions.Convert type) (knowns.Int found) (knowns.Int found)
convert_kept type found allowed low high w =
    let gives : GivesEach (functions.Convert type) (λ x. x) found = λ x p.
    some_if (int_le (least_of type) x && int_le x (greatest_of type)) (values.Int x)
    (between (least_of type) (greatest_of type) x (omega (arith, ints, low, w.low, p.low))
    (omega (arith, ints, high, w.high, p.high))) in
    after_of (functions.Convert type) (λ x. x) found found gives (λ x p. p)
    (record { x = values.Int found.lo; of_operand = holds_low found; is = gives found.lo (holds_low found) })
    (record { x = values.Int found.hi; of_operand = holds_high found; is = gives found.hi (holds_high found) })

convert_takes : (type : IntegerType) (range : Range) → ¬ IsWrongTypeFor (functions.Convert type) (knowns.Int range)
convert_takes types.Sint range h = let n = h (values.Int (pos 1)) tt in let k : ⊥ = cc in k
convert_takes types.Int range h = let n = h (values.Int (pos 1)) tt in let k : ⊥ = cc in k
convert_takes types.Dint range h = let n = h (values.Int (pos 1)) tt in let k : ⊥ = cc in k
convert_takes types.Usint range h = let n = h (values.Int (pos 1)) tt in let k : ⊥ = cc in k
convert_takes types.Uint range h = let n = h (values.Int (pos 1)) tt in let k : ⊥ = cc in k
convert_takes types.Udint range h = let n = h (values.Int (pos 1)) tt in let k : ⊥ = cc in k

least_outside : (type : IntegerType) (range f b : Range) (other : Cause)
    → ArisesAtFunction (functions.Convert type) (knowns.Int range) other
    → refusal_number (causes.OutOfRange f b) ≤ refusal_number other
least_outside type range f b causes.WrongType a = absurd (convert_takes type range a)
least_outside type range f b (causes.OutOfRange g d) a = omega arith
least_outside type range f b _ a = absurd a

pub convert_refused : (type : IntegerType) (found allowed : Range) → allowed.lo ≡ least_of type
    → allowed.hi ≡ greatest_of type → ¬ IsWithin found allowed
    → IsLeastCause (ArisesAtFunction (functions.Convert type) (knowns.Int found)) (causes.OutOfRange found allowed)
convert_refused type found allowed low high out = record {
  arises = record { operand_is = refl; low = low; high = high; out = out };
  least = least_outside type found found allowed;
}

-- ---- the cause is one

pub constant_known : (n : ℤ) (range : Range) → range.lo ≡ n → range.hi ≡ n
    → knowns.Int range ≡ known_of_value (values.Int n)
constant_known n range p q = ap (λ (r : Range). knowns.Int r) (same_limits range (only n) (p, q))

pub same_outside : (function : Function) (operand : Known) (f a g b : Range)
    → ArisesAtFunction function operand (causes.OutOfRange f a)
    → ArisesAtFunction function operand (causes.OutOfRange g b)
    → causes.OutOfRange f a ≡ causes.OutOfRange g b
same_outside (functions.Convert type) operand f a g b p q =
    let s = p.operand_is in
    let t = q.operand_is in
    let found : f ≡ g = cc in
    let allowed = same_limits a b (p.low ∙ sym q.low, p.high ∙ sym q.high) in
    cc
same_outside functions.Not operand f a g b p q = absurd p
same_outside functions.Abs operand f a g b p q = absurd p

within_of : (type : IntegerType) (operand : Known) (f a : Range)
    → ((x : Value) → IsKnown x operand → IsSome (value_of_function (functions.Convert type) x))
    → ¬ IsOutOfType type operand f a
within_of type knowns.Bool f a h o = let e = o.operand_is in absurd (cc)
within_of type (knowns.Int r) f a h o =
    let e = o.operand_is in
    let s : r ≡ f = cc in
    let l = of_some (int_le (least_of type) r.lo && int_le r.lo (greatest_of type)) (values.Int r.lo)
    (h (values.Int r.lo) (holds_low r)) in
    let u = of_some (int_le (least_of type) r.hi && int_le r.hi (greatest_of type)) (values.Int r.hi)
    (h (values.Int r.hi) (holds_high r)) in
    let p = low_of (least_of type) (greatest_of type) r.lo l in
    let q = high_of (least_of type) (greatest_of type) r.hi u in
    let w : IsWithin r a = record {
      low = omega (arith, ints, o.low, p);
      high = omega (arith, ints, o.high, q);
    } in
    o.out (subst (λ (x : Range). IsWithin x a) s w)

-- where each value has a value no cause arises
pub no_cause : (function : Function) (operand : Known)
    → ((x : Value) → IsKnown x operand → IsSome (value_of_function function x)) → (cause : Cause)
    → ¬ ArisesAtFunction function operand cause
no_cause function operand h causes.WrongType a =
    let x = example operand in
    not_both (value_of_function function x.0) (h x.0 x.1) (a x.0 (kind_of_known x.0 operand x.1))
no_cause (functions.Convert type) operand h (causes.OutOfRange f b) a = within_of type operand f b h a
no_cause functions.Not operand h (causes.OutOfRange f b) a = a
no_cause functions.Abs operand h (causes.OutOfRange f b) a = a
no_cause (functions.Convert type) operand h causes.TooBig a = a
no_cause functions.Not operand h causes.TooBig a =
    not_both (value_of_function functions.Not a.x) (h a.x a.of_operand) a.none
no_cause functions.Abs operand h causes.TooBig a =
    not_both (value_of_function functions.Abs a.x) (h a.x a.of_operand) a.none
no_cause function operand h _ a = absurd a

pub function_refused : (function : Function) (operand : Known) (result : Result Known Cause)
    → IsFunctionVerdict function operand result → (cause : Cause)
    → (result ≡ Err cause) ↔ IsLeastCause (ArisesAtFunction function operand) cause
function_refused function operand (Ok known) h cause =
    (λ e. let k : ⊥ = cc in absurd k, λ l. absurd (no_cause function operand h.some cause l.arises))
function_refused function operand (Err c) h cause = (
  λ e. let q : c ≡ cause = cc in subst (IsLeastCause (ArisesAtFunction function operand)) q h,
  λ l.
      ap (λ (w : Cause). Err w)
      (one_cause (ArisesAtFunction function operand) c cause (same_outside function operand) h l),
)
