-- Where a cause arises at an operator it has no value for some values that are known so.
use Rattle.std.proofs.Common.{◌≡◌, ℤ, Bool, Option, Some, None}
use Rattle.std.proofs.Common.{refl, ap, subst}
use Rattle.std.specs.Prelude.{⊤}
use Rattle.iltypes.specs.declared.operator.Operator.{Operator}
use Rattle.iltypes.specs.declared.operator.Operator.TheVariants as operators
use Rattle.iltypes.specs.declared.value.Value.{Value}
use Rattle.iltypes.specs.declared.value.Value.TheVariants as values
use Rattle.iltypes.specs.Operators.{both, value_of_operator}
use Rattle.ilverify.specs.declared.cause.Cause.{Cause}
use Rattle.ilverify.specs.declared.cause.Cause.TheVariants as causes
use Rattle.ilverify.specs.declared.known.Known.{Known}
use Rattle.ilverify.specs.Fits.{IsResultKnown}
use Rattle.ilverify.specs.Knowns.{IsKnown}
use Rattle.ilverify.specs.Refusals.{ArisesAtOperator}
use Rattle.ilverify.specs.Results.{DividesByZero}
use Rattle.ilverify.proofs.Knowns.{kind_of_known}
use Rattle.ilverify.proofs.UndefinedStores.{none_of, some_of, some_known, IsAlike, result_of}

-- ---- operators

-- a value where one is known, and one that is known so
abbrev pub IsChoice : Option Value → Option Known → Type 0
IsChoice None None = ⊤
IsChoice None (Some known) = ⊥
IsChoice (Some value) None = ⊥
IsChoice (Some value) (Some known) = IsKnown value known

pub choice : (known : Option Known) → IsChoice (result_of known) known
choice None = tt
choice (Some known) = some_known known

pub choice_known : (value : Option Value) (known : Option Known) → IsChoice value known → IsResultKnown value known
choice_known None None h = tt
choice_known None (Some known) h = h
choice_known (Some value) None h = tt
choice_known (Some value) (Some known) h = h

abbrev pub AreAlike : Option Value → Option Value → Type 0
AreAlike None None = ⊤
AreAlike (Some v) (Some w) = IsAlike v w
AreAlike _ _ = ⊥

-- the operator has no value for some values that are known so, nor for a right one that is alike
pub record HasNone (operator : Operator) (left right : Option Known) : Type 0 where
  pub one : Option Value
  pub is_one : IsChoice one left
  pub other : Option Value
  pub is_other : IsChoice other right
  pub none : (alike : Option Value) → AreAlike other alike → both operator one alike ≡ None

-- of truth values only the kind decides whether there is a value
truths_alike : (operator : Operator) (x : Value) (a b : Bool) → value_of_operator operator x (values.Bool a) ≡ None
    → value_of_operator operator x (values.Bool b) ≡ None
truths_alike (operators.And negated) (values.Bool x) a b h = absurd (cc)
truths_alike (operators.And negated) (values.Int x) a b h = refl
truths_alike (operators.Or negated) (values.Bool x) a b h = absurd (cc)
truths_alike (operators.Or negated) (values.Int x) a b h = refl
truths_alike (operators.Xor negated) (values.Bool x) a b h = absurd (cc)
truths_alike (operators.Xor negated) (values.Int x) a b h = refl
truths_alike operators.Add (values.Bool x) a b h = refl
truths_alike operators.Add (values.Int x) a b h = refl
truths_alike operators.Sub (values.Bool x) a b h = refl
truths_alike operators.Sub (values.Int x) a b h = refl
truths_alike operators.Mul (values.Bool x) a b h = refl
truths_alike operators.Mul (values.Int x) a b h = refl
truths_alike operators.Div (values.Bool x) a b h = refl
truths_alike operators.Div (values.Int x) a b h = refl
truths_alike operators.Mod (values.Bool x) a b h = refl
truths_alike operators.Mod (values.Int x) a b h = refl
truths_alike operators.Gt (values.Bool x) a b h = refl
truths_alike operators.Gt (values.Int x) a b h = refl
truths_alike operators.Ge (values.Bool x) a b h = refl
truths_alike operators.Ge (values.Int x) a b h = refl
truths_alike operators.Eq (values.Bool x) a b h = absurd (cc)
truths_alike operators.Eq (values.Int x) a b h = refl
truths_alike operators.Ne (values.Bool x) a b h = absurd (cc)
truths_alike operators.Ne (values.Int x) a b h = refl
truths_alike operators.Le (values.Bool x) a b h = refl
truths_alike operators.Le (values.Int x) a b h = refl
truths_alike operators.Lt (values.Bool x) a b h = refl
truths_alike operators.Lt (values.Int x) a b h = refl
truths_alike operators.Min (values.Bool x) a b h = refl
truths_alike operators.Min (values.Int x) a b h = refl
truths_alike operators.Max (values.Bool x) a b h = refl
truths_alike operators.Max (values.Int x) a b h = refl

alike_none : (operator : Operator) (x y z : Value) → IsAlike y z → value_of_operator operator x y ≡ None
    → value_of_operator operator x z ≡ None
alike_none operator x (values.Bool a) (values.Bool b) h e = truths_alike operator x a b e
alike_none operator x (values.Bool a) (values.Int n) h e = absurd h
alike_none operator x (values.Int m) (values.Bool b) h e = absurd h
alike_none operator x (values.Int m) (values.Int n) h e =
    subst (λ (k : ℤ). value_of_operator operator x (values.Int k) ≡ None) h e

divides : (operator : Operator) (x y : Value) → DividesByZero operator y → value_of_operator operator x y ≡ None
divides (operators.And negated) x y h = absurd h
divides (operators.Or negated) x y h = absurd h
divides (operators.Xor negated) x y h = absurd h
divides operators.Add x y h = absurd h
divides operators.Sub x y h = absurd h
divides operators.Mul x y h = absurd h
divides operators.Div x (values.Bool b) h = absurd h
divides operators.Div (values.Bool a) (values.Int n) h = refl
divides operators.Div (values.Int m) (values.Int n) h =
    ap (λ (k : ℤ). value_of_operator operators.Div (values.Int m) (values.Int k)) h
divides operators.Mod x (values.Bool b) h = absurd h
divides operators.Mod (values.Bool a) (values.Int n) h = refl
divides operators.Mod (values.Int m) (values.Int n) h =
    ap (λ (k : ℤ). value_of_operator operators.Mod (values.Int m) (values.Int k)) h
divides operators.Gt x y h = absurd h
divides operators.Ge x y h = absurd h
divides operators.Eq x y h = absurd h
divides operators.Ne x y h = absurd h
divides operators.Le x y h = absurd h
divides operators.Lt x y h = absurd h
divides operators.Min x y h = absurd h
divides operators.Max x y h = absurd h

both_none : (operator : Operator) (left : Option Value) → both operator left None ≡ None
both_none operator None = refl
both_none operator (Some x) = refl

of_alike : (operator : Operator) (x y : Value) → value_of_operator operator x y ≡ None → (alike : Option Value)
    → AreAlike (Some y) alike → both operator (Some x) alike ≡ None
of_alike operator x y e None h = absurd h
of_alike operator x y e (Some z) h = alike_none operator x y z h e

of_absent : (operator : Operator) (left : Option Known) (alike : Option Value) → AreAlike None alike
    → both operator (result_of left) alike ≡ None
of_absent operator left None h = both_none operator (result_of left)
of_absent operator left (Some z) h = absurd h

-- of chosen values
of_values : (operator : Operator) (left right : Known) (x y : Value) → IsKnown x left → IsKnown y right
    → value_of_operator operator x y ≡ None → HasNone operator (Some left) (Some right)
of_values operator left right x y h k e = record {
  one = Some x;
  is_one = h;
  other = Some y;
  is_other = k;
  none = of_alike operator x y e;
}

pub of_no_left : (operator : Operator) (right : Option Known) → HasNone operator None right
of_no_left operator right =
    record { one = None; is_one = tt; other = result_of right; is_other = choice right; none = λ alike h. refl }

pub of_no_right : (operator : Operator) (left : Option Known) → HasNone operator left None
of_no_right operator left =
    record { one = result_of left; is_one = choice left; other = None; is_other = tt; none = of_absent operator left }

wrong_operator : (operator : Operator) (left right : Option Known)
    → ArisesAtOperator operator left right causes.WrongType
    → HasNone operator left right
wrong_operator operator None right h = of_no_left operator right
wrong_operator operator (Some left) None h = of_no_right operator (Some left)
wrong_operator operator (Some left) (Some right) h =
    of_values operator left right (some_of left) (some_of right) (some_known left) (some_known right)
    (none_of (value_of_operator operator (some_of left) (some_of right))
    (h (some_of left) (some_of right) (kind_of_known (some_of left) left (some_known left))
    (kind_of_known (some_of right) right (some_known right))))

pub operator_none : (operator : Operator) (left right : Option Known) (cause : Cause)
    → ArisesAtOperator operator left right cause → HasNone operator left right
operator_none operator left right causes.WrongType h = wrong_operator operator left right h
operator_none operator (Some left) (Some right) causes.MayBeZero h =
    of_values operator left right (some_of left) h.y (some_known left) h.of_right
    (divides operator (some_of left) h.y h.is)
operator_none operator (Some left) (Some right) causes.TooBig h =
    of_values operator left right h.x h.y h.of_left h.of_right (none_of (value_of_operator operator h.x h.y) h.none)
operator_none operator None right causes.NoResult h = absurd h
operator_none operator (Some left) None causes.NoResult h = absurd h
operator_none operator (Some left) (Some right) causes.NoResult h = absurd h
operator_none operator None right causes.EmptyNesting h = absurd h
operator_none operator (Some left) None causes.EmptyNesting h = absurd h
operator_none operator (Some left) (Some right) causes.EmptyNesting h = absurd h
operator_none operator None right causes.OpenNesting h = absurd h
operator_none operator (Some left) None causes.OpenNesting h = absurd h
operator_none operator (Some left) (Some right) causes.OpenNesting h = absurd h
operator_none operator None right causes.MayBeZero h = absurd h
operator_none operator (Some left) None causes.MayBeZero h = absurd h
operator_none operator None right (causes.OutOfRange found allowed) h = absurd h
operator_none operator (Some left) None (causes.OutOfRange found allowed) h = absurd h
operator_none operator (Some left) (Some right) (causes.OutOfRange found allowed) h = absurd h
operator_none operator None right causes.TooBig h = absurd h
operator_none operator (Some left) None causes.TooBig h = absurd h
operator_none operator None right causes.BadJump h = absurd h
operator_none operator (Some left) None causes.BadJump h = absurd h
operator_none operator (Some left) (Some right) causes.BadJump h = absurd h
operator_none operator None right causes.TooManyRequests h = absurd h
operator_none operator (Some left) None causes.TooManyRequests h = absurd h
operator_none operator (Some left) (Some right) causes.TooManyRequests h = absurd h
operator_none operator None right causes.BadSlot h = absurd h
operator_none operator (Some left) None causes.BadSlot h = absurd h
operator_none operator (Some left) (Some right) causes.BadSlot h = absurd h
operator_none operator None right causes.TooLong h = absurd h
operator_none operator (Some left) None causes.TooLong h = absurd h
operator_none operator (Some left) (Some right) causes.TooLong h = absurd h
operator_none operator None right causes.BadCall h = absurd h
operator_none operator (Some left) None causes.BadCall h = absurd h
operator_none operator (Some left) (Some right) causes.BadCall h = absurd h
