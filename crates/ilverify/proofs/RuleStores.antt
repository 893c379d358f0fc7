-- The least cause at a store: of a value, where the slot or the current result is missing, where the variable may not
-- be written, and of an argument.
use Rattle.std.proofs.Common.{◌≡◌, pos, ◌≤◌, ◌⊎◌, Option, Some, None, Bool, true, false, refl, sym, subst, inl, inr}
use Rattle.std.proofs.Common.{arith}
use Rattle.std.specs.Prelude.{IsTrue}
use Rattle.iltypes.specs.declared.range.Range.{Range}
use Rattle.iltypes.specs.declared.value.IlType.{IlType}
use Rattle.iltypes.specs.declared.value.IlType.TheVariants as types
use Rattle.iltypes.specs.declared.value.Value.{Value}
use Rattle.iltypes.specs.declared.value.Value.TheVariants as values
use Rattle.iltypes.specs.Modifiers.{opposite}
use Rattle.iltypes.specs.Functions.{modified}
use Rattle.ilverify.specs.declared.cause.Cause.{Cause}
use Rattle.ilverify.specs.declared.cause.Cause.TheVariants as causes
use Rattle.ilverify.specs.declared.known.Known.{Known}
use Rattle.ilverify.specs.declared.known.Known.TheVariants as knowns
use Rattle.ilverify.specs.Causes.{refusal_number, IsLeastCause}
use Rattle.ilverify.specs.RuleSteps.{may_modify, if_right}
use Rattle.ilverify.specs.Knowns.{IsOfKind, known_of_type, ArisesAtStore}
use Rattle.ilverify.specs.Refusals as refusals
use Rattle.ilverify.specs.Rules.{IsModified}
use Rattle.ilverify.specs.Rules as rules
use Rattle.ilverify.proofs.RuleLawful.{no_number, no_truth_out, stored_lawful}
use Rattle.ilverify.proofs.RuleOperators.{not_number}
use Rattle.ilverify.proofs.Causes.{wrong_least, beside, alone}

-- what the modifier does not take is of a wrong type for each store
store_wrong : (negated : Bool) (known : Option Known) (type : Option IlType) → refusals.IsWrongForLoad negated known
    → refusals.IsWrongForStore negated known type
store_wrong negated known type a x y p e t = let n = a x p in let k : ⊥ = cc in k

-- NOT leaves a truth value
pub modified_kind : (negated : Bool) (known stored : Known) → IsModified negated known stored → (x y : Value)
    → IsOfKind x known → modified negated x ≡ Some y → IsOfKind y stored
modified_kind false known stored m x y p e =
    let q : x ≡ y = cc in subst (λ (v : Value). IsOfKind v stored) q (subst (IsOfKind x) m p)
modified_kind true knowns.Bool knowns.Bool m (values.Bool b) (values.Bool c) p e = tt
modified_kind true knowns.Bool (knowns.Int s) m (values.Bool b) (values.Bool c) p e =
    m.each (values.Bool (opposite b)) (record { x = values.Bool b; of_operand = tt; is = refl })
modified_kind true knowns.Bool stored m (values.Bool b) (values.Int z) p e = absurd (cc)
modified_kind true knowns.Bool stored m (values.Int z) y p e = absurd p
modified_kind true (knowns.Int r) stored m x y p e = absurd (no_number r stored m)

kinds_differ : (stored : Known) (type : IlType) (y : Value) → ArisesAtStore stored type causes.WrongType
    → IsOfKind y stored → ¬ IsOfKind y (known_of_type type)
kinds_differ knowns.Bool types.Bool y a p q = a
kinds_differ knowns.Bool (types.Int d) (values.Bool b) a p q = q
kinds_differ knowns.Bool (types.Int d) (values.Int z) a p q = p
kinds_differ (knowns.Int r) types.Bool (values.Bool b) a p q = p
kinds_differ (knowns.Int r) types.Bool (values.Int z) a p q = q
kinds_differ (knowns.Int r) (types.Int d) y a p q = a

-- a number that is stored was the current result
number_kept : (negated : Bool) (known stored : Known) (type : IlType) (found allowed : Range)
    → IsModified negated known stored → ArisesAtStore stored type (causes.OutOfRange found allowed)
    → (negated ≡ false) × ArisesAtStore known type (causes.OutOfRange found allowed)
number_kept false known stored type found allowed m a =
    (refl, subst (λ (k : Known). ArisesAtStore k type (causes.OutOfRange found allowed)) (sym m) a)
number_kept true known knowns.Bool type found allowed m a = absurd (no_truth_out type found allowed a)
number_kept true known (knowns.Int s) types.Bool found allowed m a = absurd a
number_kept true (knowns.Int r) (knowns.Int s) (types.Int d) found allowed m a = absurd (no_number r (knowns.Int s) m)
number_kept true knowns.Bool (knowns.Int s) (types.Int d) found allowed m a =
    absurd (m.each (values.Bool false) (record { x = values.Bool true; of_operand = tt; is = refl }))

-- a number out of the range is of the slot's kind
least_out : (known : Known) (type : IlType) (found allowed : Range)
    → ArisesAtStore known type (causes.OutOfRange found allowed) → (cause : Cause)
    → refusals.ArisesAtStoring false (Some known) (Some type) true cause → 7 ≤ refusal_number cause
least_out knowns.Bool type found allowed o cause a = absurd (no_truth_out type found allowed o)
least_out (knowns.Int r) types.Bool found allowed o cause a = absurd o
least_out (knowns.Int r) (types.Int d) found allowed o causes.WrongType a =
    absurd (a (values.Int (pos 1)) (values.Int (pos 1)) tt refl tt)
least_out (knowns.Int r) (types.Int d) found allowed o causes.NoResult a = let k : ⊥ = cc in absurd k
least_out (knowns.Int r) (types.Int d) found allowed o (causes.OutOfRange f b) a = omega arith
least_out (knowns.Int r) (types.Int d) found allowed o causes.BadSlot a = omega arith
least_out (knowns.Int r) (types.Int d) found allowed o _ a = absurd a

store_number : (stored : Known) (type : IlType) (cause : Cause) → ArisesAtStore stored type cause
    → (refusal_number cause ≡ 2) ⊎ (refusal_number cause ≡ 7)
store_number knowns.Bool types.Bool cause a = absurd a
store_number knowns.Bool (types.Int d) causes.WrongType a = inl refl
store_number knowns.Bool (types.Int d) _ a = absurd a
store_number (knowns.Int r) types.Bool causes.WrongType a = inl refl
store_number (knowns.Int r) types.Bool _ a = absurd a
store_number (knowns.Int r) (types.Int d) (causes.OutOfRange f b) a = inr refl
store_number (knowns.Int r) (types.Int d) _ a = absurd a

pub unstored : (negated : Bool) (known stored : Known) (type : IlType) (cause : Cause)
    → IsModified negated known stored → ArisesAtStore stored type cause
    → IsLeastCause (refusals.ArisesAtStoring negated (Some known) (Some type) true) cause
unstored negated known stored type causes.WrongType m a =
    wrong_least (refusals.ArisesAtStoring negated (Some known) (Some type) true)
    (λ x y p e. kinds_differ stored type y a (modified_kind negated known stored m x y p e))
unstored negated known stored type (causes.OutOfRange found allowed) m a =
    let k = number_kept negated known stored type found allowed m a in
    subst (λ (n : Bool). IsLeastCause (refusals.ArisesAtStoring n (Some known) (Some type) true) (causes.OutOfRange
    found allowed)) (sym k.0) (record { arises = k.1; least = least_out known type found allowed k.1 })
unstored negated known stored type cause m a = elim (store_number stored type cause a) [
  | inl e ↦ absurd (omega (arith, e))
  | inr e ↦ absurd (omega (arith, e))
]

-- ---- stores where the slot or the current result is missing

no_slot_wrong : (negated : Bool) (known : Known) → may_modify negated known ≡ true
    → ¬ refusals.IsWrongForStore negated (Some known) None
no_slot_wrong true (knowns.Int r) e a = let k : ⊥ = cc in k
no_slot_wrong true knowns.Bool e a = a (values.Bool true) (values.Bool false) tt refl tt
no_slot_wrong false knowns.Bool e a = a (values.Bool true) (values.Bool true) tt refl tt
no_slot_wrong false (knowns.Int r) e a = a (values.Int (pos 1)) (values.Int (pos 1)) tt refl tt

no_slot_least : (negated : Bool) (known : Known) → may_modify negated known ≡ true → (cause : Cause)
    → refusals.ArisesAtStoring negated (Some known) None true cause
    → refusal_number causes.BadSlot ≤ refusal_number cause
no_slot_least negated known e causes.WrongType a = absurd (no_slot_wrong negated known e a)
no_slot_least negated known e causes.NoResult a = let k : ⊥ = cc in absurd k
no_slot_least negated known e causes.BadSlot a = omega arith
no_slot_least negated known e _ a = absurd a

number_wrong : (negated : Bool) (known : Known) → may_modify negated known ≡ false
    → refusals.IsWrongForLoad negated (Some known)
number_wrong true (knowns.Int r) e = not_number r
number_wrong true knowns.Bool e = absurd (cc)
number_wrong false known e = absurd (cc)

pub no_slot : (negated : Bool) (known : Known) (right : Bool) → may_modify negated known ≡ right
    → IsLeastCause (refusals.ArisesAtStoring negated (Some known) None true) (if_right right causes.BadSlot)
no_slot negated known true e = record { arises = inl refl; least = no_slot_least negated known e }
no_slot negated known false e =
    wrong_least (refusals.ArisesAtStoring negated (Some known) None true)
    (store_wrong negated (Some known) None (number_wrong negated known e))

nothing_wrong : (negated : Bool) (type : IlType) → may_modify negated (known_of_type type) ≡ true
    → ¬ refusals.IsWrongForStore negated None (Some type)
nothing_wrong true (types.Int d) e a = let k : ⊥ = cc in k
nothing_wrong true types.Bool e a = a (values.Bool true) (values.Bool false) tt refl tt
nothing_wrong false types.Bool e a = a (values.Bool true) (values.Bool true) tt refl tt
nothing_wrong false (types.Int d) e a = a (values.Int (pos 1)) (values.Int (pos 1)) tt refl tt

nothing_least : (negated : Bool) (type : IlType) → may_modify negated (known_of_type type) ≡ true → (cause : Cause)
    → refusals.ArisesAtStoring negated None (Some type) true cause
    → refusal_number causes.NoResult ≤ refusal_number cause
nothing_least negated type e causes.WrongType a = absurd (nothing_wrong negated type e a)
nothing_least negated type e causes.NoResult a = omega arith
nothing_least negated type e causes.BadSlot a = omega arith
nothing_least negated type e _ a = absurd a

truth_for_number : (negated : Bool) (type : IlType) → may_modify negated (known_of_type type) ≡ false
    → refusals.IsWrongForStore negated None (Some type)
truth_for_number false type e x y p m q = let k : ⊥ = cc in k
truth_for_number true types.Bool e x y p m q = let k : ⊥ = cc in k
truth_for_number true (types.Int d) e (values.Bool b) (values.Bool c) p m q = q
truth_for_number true (types.Int d) e (values.Bool b) (values.Int z) p m q = let k : ⊥ = cc in k
truth_for_number true (types.Int d) e (values.Int z) y p m q = let k : ⊥ = cc in k

pub nothing_stored : (negated : Bool) (type : IlType) (right : Bool) → may_modify negated (known_of_type type) ≡ right
    → IsLeastCause (refusals.ArisesAtStoring negated None (Some type) true) (if_right right causes.NoResult)
nothing_stored negated type true e = record { arises = refl; least = nothing_least negated type e }
nothing_stored negated type false e =
    wrong_least (refusals.ArisesAtStoring negated None (Some type) true) (truth_for_number negated type e)

neither_wrong : (negated : Bool) → ¬ refusals.IsWrongForStore negated None None
neither_wrong true a = a (values.Bool true) (values.Bool false) tt refl tt
neither_wrong false a = a (values.Bool true) (values.Bool true) tt refl tt

neither_least : (negated : Bool) (cause : Cause) → refusals.ArisesAtStoring negated None None true cause
    → refusal_number causes.NoResult ≤ refusal_number cause
neither_least negated causes.WrongType a = absurd (neither_wrong negated a)
neither_least negated causes.NoResult a = omega arith
neither_least negated causes.BadSlot a = omega arith
neither_least negated _ a = absurd a

pub neither_stored : (negated : Bool) → IsLeastCause (refusals.ArisesAtStoring negated None None true) causes.NoResult
neither_stored negated = record { arises = refl; least = neither_least negated }

-- ---- variables that may not be written: bad slot, after all other causes

not_written : (type : Option IlType) (writable : Bool) → refusals.IsNotWritten type true
    → refusals.IsNotWritten type writable
not_written type writable (inl n) = inl n
not_written type writable (inr n) = absurd (n refl)

not_writable : (writable : Bool) → writable ≡ false → ¬ IsTrue writable
not_writable writable e w = let k : ⊥ = cc in k

from_storing : (negated : Bool) (result : Option Known) (type : Option IlType) (writable : Bool) (cause : Cause)
    → refusals.ArisesAtStoring negated result type writable cause
    → (cause ≡ causes.BadSlot) ⊎ refusals.ArisesAtStoring negated result type true cause
from_storing negated result type writable causes.WrongType a = inr a
from_storing negated result type writable causes.NoResult a = inr a
from_storing negated result type writable (causes.OutOfRange found allowed) a = inr a
from_storing negated result type writable causes.BadSlot a = inl refl
from_storing negated result type writable _ a = absurd a

pub store_to_output : (negated : Bool) (result : Option Known) (type : Option IlType) (writable : Bool)
    (stored : Known) → writable ≡ false → rules.IsStored negated result type stored
    → IsLeastCause (refusals.ArisesAtStoring negated result type writable) causes.BadSlot
store_to_output negated result type writable stored e h =
    alone (refusals.ArisesAtStoring negated result type true) (refusals.ArisesAtStoring negated result type writable)
    (inr (not_writable writable e)) (stored_lawful negated result type true stored refl h)
    (from_storing negated result type writable)

to_pass : (known : Known) (type : IlType) (writable : Bool) (cause : Cause)
    → refusals.ArisesAtStoring false (Some known) (Some type) true cause
    → refusals.ArisesAtPass (Some known) true (Some type) writable cause
to_pass known type writable causes.WrongType a = a
to_pass known type writable causes.NoResult a = let k : ⊥ = cc in absurd k
to_pass known type writable (causes.OutOfRange found allowed) a = a
to_pass known type writable causes.BadSlot a = inr (not_written (Some type) writable a)
to_pass known type writable _ a = absurd a

from_pass : (known : Known) (type : IlType) (writable : Bool) (cause : Cause)
    → refusals.ArisesAtPass (Some known) true (Some type) writable cause
    → (cause ≡ causes.BadSlot) ⊎ refusals.ArisesAtStoring false (Some known) (Some type) true cause
from_pass known type writable causes.WrongType a = inr a
from_pass known type writable (causes.OutOfRange found allowed) a = inr a
from_pass known type writable causes.BadSlot a = inl refl
from_pass known type writable _ a = absurd a

pub pass_refused : (known : Known) (type : IlType) (writable : Bool) (cause : Cause)
    → IsLeastCause (refusals.ArisesAtStoring false (Some known) (Some type) true) cause
    → IsLeastCause (refusals.ArisesAtPass (Some known) true (Some type) writable) cause
pass_refused known type writable cause l =
    beside (refusals.ArisesAtStoring false (Some known) (Some type) true)
    (refusals.ArisesAtPass (Some known) true (Some type) writable) cause (λ a. a) (λ a. a)
    (to_pass known type writable cause)
    (from_pass known type writable) l

pub pass_to_output : (known stored : Known) (type : IlType) (writable : Bool) → writable ≡ false
    → rules.IsStored false (Some known) (Some type) stored
    → IsLeastCause (refusals.ArisesAtPass (Some known) true (Some type) writable) causes.BadSlot
pass_to_output known stored type writable e h =
    alone (refusals.ArisesAtStoring false (Some known) (Some type) true)
    (refusals.ArisesAtPass (Some known) true (Some type) writable) (inr (inr (not_writable writable e)))
    (stored_lawful false (Some known) (Some type) true stored refl h) (from_pass known type writable)

-- where the operand or the input is missing, nothing is of a wrong type
no_operand_wrong : (type : Option IlType) → ¬ refusals.IsWrongForStore false None type
no_operand_wrong None a = a (values.Bool true) (values.Bool true) tt refl tt
no_operand_wrong (Some types.Bool) a = a (values.Bool true) (values.Bool true) tt refl tt
no_operand_wrong (Some (types.Int d)) a = a (values.Int d.lo) (values.Int d.lo) tt refl tt

no_input_wrong : (known : Known) → ¬ refusals.IsWrongForStore false (Some known) None
no_input_wrong knowns.Bool a = a (values.Bool true) (values.Bool true) tt refl tt
no_input_wrong (knowns.Int r) a = a (values.Int r.lo) (values.Int r.lo) tt refl tt

no_operand_least : (type : Option IlType) (writable : Bool) (cause : Cause)
    → refusals.ArisesAtPass None true type writable cause → refusal_number causes.BadSlot ≤ refusal_number cause
no_operand_least type writable causes.WrongType a = absurd (no_operand_wrong type a)
no_operand_least type writable (causes.OutOfRange found allowed) a = absurd a
no_operand_least type writable causes.BadSlot a = omega arith
no_operand_least type writable _ a = absurd a

pub no_operand_passed : (type : Option IlType) (writable : Bool)
    → IsLeastCause (refusals.ArisesAtPass None true type writable) causes.BadSlot
no_operand_passed type writable = record { arises = inl (inl refl); least = no_operand_least type writable }

no_input_least : (known : Known) (writable : Bool) (cause : Cause)
    → refusals.ArisesAtPass (Some known) true None writable cause → refusal_number causes.BadSlot ≤ refusal_number cause
no_input_least known writable causes.WrongType a = absurd (no_input_wrong known a)
no_input_least known writable (causes.OutOfRange found allowed) a = absurd a
no_input_least known writable causes.BadSlot a = omega arith
no_input_least known writable _ a = absurd a

pub no_input_passed : (known : Known) (writable : Bool)
    → IsLeastCause (refusals.ArisesAtPass (Some known) true None writable) causes.BadSlot
no_input_passed known writable = record { arises = inr (inl refl); least = no_input_least known writable }
