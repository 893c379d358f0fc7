-- A turned comparison has the opposite outcome.
use Rattle.std.proofs.Common.{◌≡◌, refl, ap, ◌∙◌, ℤ, Bool, true, false, not, int_lt, int_le, arith, int_eq}
use Rattle.std.proofs.lemmas.Int.{ints}
use Rattle.iltypes.specs.Modifiers.{opposite}
use Rattle.iltypes.specs.declared.operator.Operator.{Operator}
use Rattle.iltypes.specs.declared.operator.Operator.TheVariants.{Gt, Ge, Eq, Ne, Le, Lt}
use Rattle.iltypes.specs.Comparisons.{HasOutcome, HasOppositeOutcome, ComparesTurned, IsTurnedBack}
use Rattle.iltypes.specs.Operators.{truth}

opposite_not : (b : Bool) → not b ≡ opposite b
opposite_not true = refl
opposite_not false = refl

not_again : (b : Bool) → b ≡ opposite (not b)
not_again true = refl
not_again false = refl

-- not above is at most
at_most : (x y : ℤ) → int_le x y ≡ opposite (int_lt y x)
at_most x y = by (int_lt y x) refl
  where
    by : (b : Bool) → int_lt y x ≡ b → int_le x y ≡ opposite b
    by true e = grind (arith, ints)
    by false e = grind (arith, ints)

-- not at most is above
above : (x y : ℤ) → int_lt y x ≡ opposite (int_le x y)
above x y = by (int_le x y) refl
  where
    by : (b : Bool) → int_le x y ≡ b → int_lt y x ≡ opposite b
    by true e = grind (arith, ints)
    by false e = grind (arith, ints)

-- where a test has this outcome, its opposite has the other one
opposed : (b c outcome : Bool) → c ≡ opposite b → truth b ≡ truth outcome → truth c ≡ truth (opposite outcome)
opposed b c outcome e h = let k : b ≡ outcome = cc in ap (λ t. truth t) e ∙ ap (λ t. truth (opposite t)) k

-- what does not compare is no comparison
false_is_not_true : ◌≡◌ {A = Bool} false true → ⊥
false_is_not_true e = cc

pub has_outcome : (operator : Operator) → HasOutcome operator
has_outcome Gt left right h = (int_lt right left, refl)
has_outcome Ge left right h = (int_le right left, refl)
has_outcome Eq left right h = (int_eq left right, refl)
has_outcome Ne left right h = (not (int_eq left right), refl)
has_outcome Le left right h = (int_le left right, refl)
has_outcome Lt left right h = (int_lt left right, refl)
has_outcome _ left right h = absurd (false_is_not_true h)

pub has_opposite_outcome : (operator : Operator) → HasOppositeOutcome operator
has_opposite_outcome Gt left right outcome h e =
    opposed (int_lt right left) (int_le left right) outcome (at_most left right) e
has_opposite_outcome Ge left right outcome h e =
    opposed (int_le right left) (int_lt left right) outcome (above right left) e
has_opposite_outcome Eq left right outcome h e =
    opposed (int_eq left right) (not (int_eq left right)) outcome (opposite_not (int_eq left right)) e
has_opposite_outcome Ne left right outcome h e =
    opposed (not (int_eq left right)) (int_eq left right) outcome (not_again (int_eq left right)) e
has_opposite_outcome Le left right outcome h e =
    opposed (int_le left right) (int_lt right left) outcome (above left right) e
has_opposite_outcome Lt left right outcome h e =
    opposed (int_lt left right) (int_le right left) outcome (at_most right left) e
has_opposite_outcome _ left right outcome h e = absurd (false_is_not_true h)

pub compares_turned : (operator : Operator) → ComparesTurned operator
compares_turned Gt = refl
compares_turned Ge = refl
compares_turned Eq = refl
compares_turned Ne = refl
compares_turned Le = refl
compares_turned Lt = refl
compares_turned _ = refl

pub turned_back : (operator : Operator) → IsTurnedBack operator
turned_back Gt = refl
turned_back Ge = refl
turned_back Eq = refl
turned_back Ne = refl
turned_back Le = refl
turned_back Lt = refl
turned_back _ = refl
