-- The least cause at a load, at an operator and at `)`, and which kinds operators take.
use Rattle.std.proofs.Common.{◌≡◌, ◌≤◌, Some, None, Result, Ok, Err, Bool, true, false, refl, arith, pos}
use Rattle.std.proofs.Common.{inl, inr}
use Rattle.std.specs.Prelude.{IsNone, IfOk, ◌↔◌, MatchResult}
use Rattle.iltypes.specs.declared.range.Range.{Range}
use Rattle.iltypes.specs.declared.value.Value.{Value}
use Rattle.iltypes.specs.declared.value.Value.TheVariants as values
use Rattle.iltypes.specs.declared.function.Function.TheVariants as functions
use Rattle.iltypes.specs.declared.operator.Operator.{Operator}
use Rattle.iltypes.specs.Functions.{modified}
use Rattle.iltypes.specs.declared.operator.Operator.TheVariants as operators
use Rattle.iltypes.specs.Operators.{value_of_operator}
use Rattle.ilverify.specs.declared.cause.Cause.{Cause}
use Rattle.ilverify.specs.declared.cause.Cause.TheVariants as causes
use Rattle.ilverify.specs.declared.known.Known.{Known}
use Rattle.ilverify.specs.declared.known.Known.TheVariants as knowns
use Rattle.ilverify.specs.Causes.{refusal_number, IsLeastCause}
use Rattle.ilverify.specs.RuleSteps.{takes, if_right}
use Rattle.ilverify.specs.Functions.{IsAfterFunction, ArisesAtFunction}
use Rattle.ilverify.specs.Knowns.{IsKnown, IsOfKind}
use Rattle.ilverify.specs.Refusals as refusals
use Rattle.ilverify.specs.Results.{IsAfter, Arises}
use Rattle.ilverify.specs.Rules.{IsModified, IsApplied}
use Rattle.ilverify.specs.Refusals.{IsWrongForOperator}
use Rattle.ilverify.proofs.Causes.{least_as, wrong_least}

-- ---- which kinds operators take

-- some two values of a kind that the operator takes have a value
takes_some : (operator : Operator) (known : Known) → takes operator known ≡ true
    → ((x y : Value) → IsOfKind x known → IsOfKind y known → IsNone (value_of_operator operator x y)) → ⊥
takes_some (operators.And n) (knowns.Int r) e a = let k : ⊥ = cc in k
takes_some (operators.Or n) (knowns.Int r) e a = let k : ⊥ = cc in k
takes_some (operators.Xor n) (knowns.Int r) e a = let k : ⊥ = cc in k
takes_some operator (knowns.Int r) e a =
    let n = a (values.Int (pos 1)) (values.Int (pos 1)) tt tt in let k : ⊥ = cc in k
takes_some (operators.And n) knowns.Bool e a =
    let n = a (values.Bool true) (values.Bool true) tt tt in let k : ⊥ = cc in k
takes_some (operators.Or n) knowns.Bool e a =
    let n = a (values.Bool true) (values.Bool true) tt tt in let k : ⊥ = cc in k
takes_some (operators.Xor n) knowns.Bool e a =
    let n = a (values.Bool true) (values.Bool true) tt tt in let k : ⊥ = cc in k
takes_some operators.Eq knowns.Bool e a =
    let n = a (values.Bool true) (values.Bool true) tt tt in let k : ⊥ = cc in k
takes_some operators.Ne knowns.Bool e a =
    let n = a (values.Bool true) (values.Bool true) tt tt in let k : ⊥ = cc in k
takes_some operator knowns.Bool e a = let k : ⊥ = cc in k

pub takes_left : (operator : Operator) (known : Known) → takes operator known ≡ true
    → ¬ IsWrongForOperator operator (Some known) None
takes_left operator known e a = takes_some operator known e (λ x y p q. a x y p tt)

pub takes_right : (operator : Operator) (known : Known) → takes operator known ≡ true
    → ¬ IsWrongForOperator operator None (Some known)
takes_right operator known e a = takes_some operator known e (λ x y p q. a x y tt q)

-- no two values have a value, where one is of a kind that the operator does not take
pub wrong_left : (operator : Operator) (known : Known) → takes operator known ≡ false
    → IsWrongForOperator operator (Some known) None
wrong_left operator knowns.Bool e (values.Int z) y p q = absurd p
wrong_left operator (knowns.Int r) e (values.Bool b) y p q = absurd p
wrong_left (operators.And n) (knowns.Int r) e (values.Int z) y p q = refl
wrong_left (operators.Or n) (knowns.Int r) e (values.Int z) y p q = refl
wrong_left (operators.Xor n) (knowns.Int r) e (values.Int z) y p q = refl
wrong_left operator (knowns.Int r) e (values.Int z) y p q = absurd (cc)
wrong_left (operators.And n) knowns.Bool e (values.Bool b) y p q = absurd (cc)
wrong_left (operators.Or n) knowns.Bool e (values.Bool b) y p q = absurd (cc)
wrong_left (operators.Xor n) knowns.Bool e (values.Bool b) y p q = absurd (cc)
wrong_left operators.Eq knowns.Bool e (values.Bool b) y p q = absurd (cc)
wrong_left operators.Ne knowns.Bool e (values.Bool b) y p q = absurd (cc)
wrong_left operator knowns.Bool e (values.Bool b) y p q = refl

pub wrong_right : (operator : Operator) (known : Known) → takes operator known ≡ false
    → IsWrongForOperator operator None (Some known)
wrong_right operator knowns.Bool e x (values.Int z) p q = absurd q
wrong_right operator (knowns.Int r) e x (values.Bool b) p q = absurd q
wrong_right (operators.And n) (knowns.Int r) e (values.Bool c) (values.Int z) p q = refl
wrong_right (operators.Or n) (knowns.Int r) e (values.Bool c) (values.Int z) p q = refl
wrong_right (operators.Xor n) (knowns.Int r) e (values.Bool c) (values.Int z) p q = refl
wrong_right (operators.And n) (knowns.Int r) e (values.Int c) (values.Int z) p q = refl
wrong_right (operators.Or n) (knowns.Int r) e (values.Int c) (values.Int z) p q = refl
wrong_right (operators.Xor n) (knowns.Int r) e (values.Int c) (values.Int z) p q = refl
wrong_right operator (knowns.Int r) e x (values.Int z) p q = absurd (cc)
wrong_right (operators.And n) knowns.Bool e x (values.Bool b) p q = absurd (cc)
wrong_right (operators.Or n) knowns.Bool e x (values.Bool b) p q = absurd (cc)
wrong_right (operators.Xor n) knowns.Bool e x (values.Bool b) p q = absurd (cc)
wrong_right operators.Eq knowns.Bool e x (values.Bool b) p q = absurd (cc)
wrong_right operators.Ne knowns.Bool e x (values.Bool b) p q = absurd (cc)
wrong_right operator knowns.Bool e (values.Bool c) (values.Bool b) p q = refl
wrong_right operator knowns.Bool e (values.Int c) (values.Bool b) p q = refl

-- each operator takes some kind
pub takes_any : (operator : Operator) → ¬ IsWrongForOperator operator None None
takes_any (operators.And n) a = let n = a (values.Bool true) (values.Bool true) tt tt in let k : ⊥ = cc in k
takes_any (operators.Or n) a = let n = a (values.Bool true) (values.Bool true) tt tt in let k : ⊥ = cc in k
takes_any (operators.Xor n) a = let n = a (values.Bool true) (values.Bool true) tt tt in let k : ⊥ = cc in k
takes_any operator a = let n = a (values.Int (pos 1)) (values.Int (pos 1)) tt tt in let k : ⊥ = cc in k

-- ---- LDN and STN

not_truth : (x : Value) → IsKnown x knowns.Bool → ¬ IsNone (modified true x)
not_truth (values.Bool b) p n = let k : ⊥ = cc in k
not_truth (values.Int z) p n = p

pub not_number : (range : Range) → refusals.IsWrongForLoad true (Some (knowns.Int range))
not_number range (values.Int z) p = refl
not_number range (values.Bool b) p = absurd p

to_load : (known : Known) (cause : Cause) → ArisesAtFunction functions.Not known cause
    → refusals.ArisesAtLoad true (Some known) true cause
to_load known causes.WrongType a = a
to_load knowns.Bool causes.TooBig a = absurd (not_truth a.x a.of_operand a.none)
to_load (knowns.Int r) causes.TooBig a = absurd (a.kind (not_number r))
to_load known _ a = absurd a

from_load : (known : Known) (cause : Cause) → refusals.ArisesAtLoad true (Some known) true cause
    → ArisesAtFunction functions.Not known cause
from_load known causes.WrongType a = a
from_load known causes.BadSlot (inl n) = let k : ⊥ = cc in absurd k
from_load known causes.BadSlot (inr n) = absurd (n refl)
from_load known _ a = absurd a

pub modify_of : (known : Known) (result : Result Known Cause) → IfOk result (IsAfterFunction functions.Not known)
    → ((cause : Cause) → (result ≡ Err cause) ↔ IsLeastCause (ArisesAtFunction functions.Not known) cause)
    → MatchResult result (IsModified true known) (IsLeastCause (refusals.ArisesAtLoad true (Some known) true))
modify_of known (Ok after) h r = h
modify_of known (Err cause) h r =
    least_as (ArisesAtFunction functions.Not known) (refusals.ArisesAtLoad true (Some known) true) cause
    (to_load known cause) (from_load known) ((r cause).0 refl)

modified_truth : (negated : Bool) → ¬ IsNone (modified negated (values.Bool true))
modified_truth true n = let k : ⊥ = cc in k
modified_truth false n = let k : ⊥ = cc in k

-- without an operand the load is of no wrong type
least_slot : (negated : Bool) (cause : Cause) → refusals.ArisesAtLoad negated None true cause
    → refusal_number causes.BadSlot ≤ refusal_number cause
least_slot negated causes.WrongType a = absurd (modified_truth negated (a (values.Bool true) tt))
least_slot negated causes.BadSlot a = omega arith
least_slot negated _ a = absurd a

pub load_bad_slot : (negated : Bool) → IsLeastCause (refusals.ArisesAtLoad negated None true) causes.BadSlot
load_bad_slot negated = record { arises = inl refl; least = least_slot negated }

-- ---- operators

to_apply : (operator : Operator) (left right : Known) (cause : Cause) → Arises operator left right cause
    → refusals.ArisesAtApply operator (Some left) (Some right) true cause
to_apply operator left right causes.NoResult a = absurd a
to_apply operator left right causes.BadSlot a = absurd a
to_apply operator left right causes.WrongType a = a
to_apply operator left right cause a = a

from_apply : (operator : Operator) (left right : Known) (cause : Cause)
    → refusals.ArisesAtApply operator (Some left) (Some right) true cause → Arises operator left right cause
from_apply operator left right causes.NoResult a = let k : ⊥ = cc in absurd k
from_apply operator left right causes.BadSlot (inl n) = let k : ⊥ = cc in absurd k
from_apply operator left right causes.BadSlot (inr n) = absurd (n refl)
from_apply operator left right causes.WrongType a = a
from_apply operator left right cause a = a

pub apply_of : (operator : Operator) (left right : Known) (result : Result Known Cause)
    → IfOk result (IsAfter operator left right)
    → ((cause : Cause) → (result ≡ Err cause) ↔ IsLeastCause (Arises operator left right) cause)
    → MatchResult result (IsApplied operator (Some left) (Some right))
    (IsLeastCause (refusals.ArisesAtApply operator (Some left) (Some right) true))
apply_of operator left right (Ok after) h r = h
apply_of operator left right (Err cause) h r =
    least_as (Arises operator left right) (refusals.ArisesAtApply operator (Some left) (Some right) true) cause
    (to_apply operator left right cause) (from_apply operator left right) ((r cause).0 refl)

to_closing : (operator : Operator) (saved inner : Known) (cause : Cause) → Arises operator saved inner cause
    → refusals.ArisesAtClosing operator saved (Some inner) cause
to_closing operator saved inner causes.NoResult a = absurd a
to_closing operator saved inner causes.WrongType a = a
to_closing operator saved inner cause a = a

from_closing : (operator : Operator) (saved inner : Known) (cause : Cause)
    → refusals.ArisesAtClosing operator saved (Some inner) cause → Arises operator saved inner cause
from_closing operator saved inner causes.NoResult a = let k : ⊥ = cc in absurd k
from_closing operator saved inner causes.WrongType a = a
from_closing operator saved inner cause a = a

pub closing_of : (operator : Operator) (saved inner : Known) (result : Result Known Cause)
    → IfOk result (IsAfter operator saved inner)
    → ((cause : Cause) → (result ≡ Err cause) ↔ IsLeastCause (Arises operator saved inner) cause)
    → MatchResult result (IsApplied operator (Some saved) (Some inner))
    (IsLeastCause (refusals.ArisesAtClosing operator saved (Some inner)))
closing_of operator saved inner (Ok after) h r = h
closing_of operator saved inner (Err cause) h r =
    least_as (Arises operator saved inner) (refusals.ArisesAtClosing operator saved (Some inner)) cause
    (to_closing operator saved inner cause) (from_closing operator saved inner) ((r cause).0 refl)

-- no operand
left_alone : (operator : Operator) (left : Known) → takes operator left ≡ true → (cause : Cause)
    → refusals.ArisesAtApply operator (Some left) None true cause → refusal_number causes.BadSlot ≤ refusal_number cause
left_alone operator left e causes.WrongType a = absurd (takes_left operator left e a)
left_alone operator left e causes.NoResult a = let k : ⊥ = cc in absurd k
left_alone operator left e causes.BadSlot a = omega arith
left_alone operator left e _ a = absurd a

pub no_operand : (operator : Operator) (left : Known) (right : Bool) → takes operator left ≡ right
    → IsLeastCause (refusals.ArisesAtApply operator (Some left) None true) (if_right right causes.BadSlot)
no_operand operator left true e = record { arises = inl refl; least = left_alone operator left e }
no_operand operator left false e =
    wrong_least (refusals.ArisesAtApply operator (Some left) None true) (wrong_left operator left e)

-- no current result
right_alone : (operator : Operator) (right : Known) → takes operator right ≡ true → (cause : Cause)
    → refusals.ArisesAtApply operator None (Some right) true cause
    → refusal_number causes.NoResult ≤ refusal_number cause
right_alone operator right e causes.WrongType a = absurd (takes_right operator right e a)
right_alone operator right e causes.NoResult a = omega arith
right_alone operator right e causes.BadSlot a = omega arith
right_alone operator right e _ a = absurd a

pub no_current : (operator : Operator) (operand : Known) (right : Bool) → takes operator operand ≡ right
    → IsLeastCause (refusals.ArisesAtApply operator None (Some operand) true) (if_right right causes.NoResult)
no_current operator operand true e = record { arises = refl; least = right_alone operator operand e }
no_current operator operand false e =
    wrong_least (refusals.ArisesAtApply operator None (Some operand) true) (wrong_right operator operand e)

saved_alone : (operator : Operator) (saved : Known) → takes operator saved ≡ true → (cause : Cause)
    → refusals.ArisesAtClosing operator saved None cause → refusal_number causes.NoResult ≤ refusal_number cause
saved_alone operator saved e causes.WrongType a = absurd (takes_left operator saved e a)
saved_alone operator saved e causes.NoResult a = omega arith
saved_alone operator saved e _ a = absurd a

pub no_inner : (operator : Operator) (saved : Known) (right : Bool) → takes operator saved ≡ right
    → IsLeastCause (refusals.ArisesAtClosing operator saved None) (if_right right causes.NoResult)
no_inner operator saved true e = record { arises = refl; least = saved_alone operator saved e }
no_inner operator saved false e =
    wrong_least (refusals.ArisesAtClosing operator saved None) (wrong_left operator saved e)

-- neither: each operator takes some kind
none_alone : (operator : Operator) (cause : Cause) → refusals.ArisesAtApply operator None None true cause
    → refusal_number causes.NoResult ≤ refusal_number cause
none_alone operator causes.WrongType a = absurd (takes_any operator a)
none_alone operator causes.NoResult a = omega arith
none_alone operator causes.BadSlot a = omega arith
none_alone operator _ a = absurd a

pub neither : (operator : Operator) → IsLeastCause (refusals.ArisesAtApply operator None None true) causes.NoResult
neither operator = record { arises = refl; least = none_alone operator }
