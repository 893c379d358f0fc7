-- A mark says what is so after each word that leaves or keeps it.
use Rattle.std.proofs.Common.{◌≡◌, ℕ, zero, suc, ℤ, Bool, true, false, cond, List, [], ◌∷◌, Option, Some, None, refl}
use Rattle.std.proofs.Common.{sym, ap, ◌∙◌}
use Rattle.std.specs.Prelude.{slice_get, slice_set}
use Rattle.std.specs.Option.{option_and_then}
use Rattle.iltypes.specs.declared.value.IlType.{IlType}
use Rattle.iltypes.specs.declared.value.IlType.TheVariants as types
use Rattle.iltypes.specs.declared.value.Value.{Value}
use Rattle.iltypes.specs.declared.value.Value.TheVariants as values
use Rattle.iltypes.specs.Modifiers.{opposite}
use Rattle.iltypes.specs.Values.{IsOf, AreOf}
use Rattle.iltypes.specs.declared.function.Function.{Function}
use Rattle.iltypes.specs.declared.function.Function.TheVariants as functions
use Rattle.iltypes.specs.declared.operator.Operator.{Operator}
use Rattle.iltypes.specs.Comparisons.{compares, turned}
use Rattle.iltypes.specs.Functions.{modified, value_of_function}
use Rattle.iltypes.specs.Operators.{both}
use Rattle.iltypes.proofs.Comparisons.{has_outcome, has_opposite_outcome}
use Rattle.ilcode.specs.Stores.{Store}
use Rattle.ilcode.specs.declared.word.WordOperand.{WordOperand}
use Rattle.ilcode.specs.declared.word.WordOperand.TheVariants.{Slot, Constant, Port}
use Rattle.ilcode.specs.Listings.{Listing}
use Rattle.ilcode.specs.Steps.{value_of}
use Rattle.ilverify.specs.declared.known.Known.{Known}
use Rattle.ilverify.specs.declared.known.Known.TheVariants as knowns
use Rattle.ilverify.specs.declared.mark.ResultMark.{ResultMark}
use Rattle.ilverify.specs.declared.mark.ResultMark.TheVariants.{Copy, Test}
use Rattle.ilverify.specs.Knowns.{IsKnown}
use Rattle.ilverify.specs.Marks.{IsCopy, IsTest, IsMarked, mark_of_load, constant_of, mark_of_apply, mark_of_function}
use Rattle.ilverify.proofs.Comparisons.{is_comparison}

-- ---- LD of a number's slot copies the number

loaded_value : (value : Option Value) (v : Value) → option_and_then (modified false) value ≡ Some v → value ≡ Some v
loaded_value None v e = absurd (cc)
loaded_value (Some value) v e = e

pub load_marked : (code : Listing) (store : Store) (negated : Bool) (operand : WordOperand) (known : Known) (v : Value)
    → option_and_then (modified negated) (value_of code store operand) ≡ Some v → IsKnown v known
    → IsMarked store.slots (Some v) (mark_of_load negated operand known)
load_marked code store true operand known v e k = tt
load_marked code store false (Constant constant) known v e k = tt
load_marked code store false (Port port block) known v e k = tt
load_marked code store false (Slot slot) knowns.Bool v e k = tt
load_marked code store false (Slot slot) (knowns.Int range) (values.Bool b) e k = absurd k
load_marked code store false (Slot slot) (knowns.Int range) (values.Int z) e k =
    record { number = z; there = loaded_value (slice_get store.slots slot) (values.Int z) e; is = refl }

-- ---- a comparison with a constant tests the number that was copied

constant_value : (code : Listing) (store : Store) (operand : WordOperand) (value : Value)
    → constant_of code operand ≡ Some value → value_of code store operand ≡ Some value
constant_value code store (Slot slot) value e = absurd (cc)
constant_value code store (Constant constant) value e = e
constant_value code store (Port port block) value e = absurd (cc)

-- the outcome of a comparison of the number that was copied
compared : (slots : List Value) (result operand : Option Value) (slot : ℕ) (operator : Operator) (limit : ℤ)
    (v : Value) → IsCopy slots result slot → operand ≡ Some (values.Int limit) → compares operator ≡ true
    → both operator result operand ≡ Some v → IsTest slots (Some v) slot operator limit
compared slots result operand slot operator limit v m o c e =
    let h = has_outcome operator m.number limit c in
    let p = ap (λ (r : Option Value). both operator r operand) m.is in
    let q = ap (both operator (Some (values.Int m.number))) o in
    record { number = m.number; there = m.there; outcome = h.0; tested = h.1; is = sym e ∙ p ∙ q ∙ h.1 }

compared_by : (slots : List Value) (result operand : Option Value) (slot : ℕ) (operator : Operator) (limit : ℤ)
    (v : Value) (b : Bool) → IsCopy slots result slot → operand ≡ Some (values.Int limit) → compares operator ≡ b
    → both operator result operand ≡ Some v
    → IsMarked slots (Some v) (cond b (Some (Test slot operator limit)) None)
compared_by slots result operand slot operator limit v true m o c e =
    compared slots result operand slot operator limit v m o c e
compared_by slots result operand slot operator limit v false m o c e = tt

applied_by : (slots : List Value) (result operand constant : Option Value) (mark : Option ResultMark)
    (operator : Operator)
    (v : Value) → IsMarked slots result mark → ((value : Value) → constant ≡ Some value → operand ≡ Some value)
    → both operator result operand ≡ Some v → IsMarked slots (Some v) (mark_of_apply mark operator constant)
applied_by slots result operand constant None operator v m h e = tt
applied_by slots result operand constant (Some (Test slot comparison limit)) operator v m h e = tt
applied_by slots result operand None (Some (Copy slot)) operator v m h e = tt
applied_by slots result operand (Some (values.Bool b)) (Some (Copy slot)) operator v m h e = tt
applied_by slots result operand (Some (values.Int limit)) (Some (Copy slot)) operator v m h e =
    compared_by slots result operand slot operator limit v (compares operator) m (h (values.Int limit) refl) refl e

pub apply_marked : (code : Listing) (store : Store) (result : Option Value) (mark : Option ResultMark)
    (operator : Operator)
    (operand : WordOperand) (v : Value) → IsMarked store.slots result mark
    → both operator result (value_of code store operand) ≡ Some v
    → IsMarked store.slots (Some v) (mark_of_apply mark operator (constant_of code operand))
apply_marked code store result mark operator operand v m e =
    applied_by store.slots result (value_of code store operand) (constant_of code operand) mark operator v m
    (constant_value code store operand) e

-- ---- NOT turns a test

-- the opposite of a test's outcome is that of the turned test
turned_test : (slots : List Value) (result : Option Value) (slot : ℕ) (comparison : Operator) (limit : ℤ) (v : Value)
    → IsTest slots result slot comparison limit
    → option_and_then (value_of_function functions.Not) result ≡ Some v
    → IsTest slots (Some v) slot (turned comparison) limit
turned_test slots result slot comparison limit v m e = record {
  number = m.number;
  there = m.there;
  outcome = opposite m.outcome;
  tested = has_opposite_outcome comparison m.number limit m.outcome
      (is_comparison comparison m.number limit m.outcome m.tested) m.tested;
  is = sym e ∙ ap (option_and_then (value_of_function functions.Not)) m.is;
}

pub function_marked : (slots : List Value) (result : Option Value) (mark : Option ResultMark) (function : Function)
    (v : Value) → IsMarked slots result mark → option_and_then (value_of_function function) result ≡ Some v
    → IsMarked slots (Some v) (mark_of_function mark function)
function_marked slots result None function v m e = tt
function_marked slots result (Some (Copy slot)) function v m e = tt
function_marked slots result (Some (Test slot comparison limit)) functions.Not v m e =
    turned_test slots result slot comparison limit v m e
function_marked slots result (Some (Test slot comparison limit)) functions.Abs v m e = tt
function_marked slots result (Some (Test slot comparison limit)) (functions.Convert type) v m e = tt

-- ---- a store keeps a mark: a copy's slot may get the same number, and a test's slot gets no truth value

set_same : (slots : List Value) (slot other : ℕ) (v : Value) → slice_get slots other ≡ Some v
    → slice_get (slice_set slots slot v) other ≡ Some v
set_same [] slot other v e = absurd (cc)
set_same (x ∷ xs) zero zero v e = refl
set_same (x ∷ xs) zero (suc other) v e = e
set_same (x ∷ xs) (suc slot) zero v e = e
set_same (x ∷ xs) (suc slot) (suc other) v e = set_same xs slot other v e

not_number : (z : ℤ) (value : Value) (type : IlType) → IsOf value type → type ≡ types.Bool → ¬ (value ≡ values.Int z)
not_number z (values.Bool b) type o e h = let k : ⊥ = cc in k
not_number z (values.Int n) types.Bool o e h = o
not_number z (values.Int n) (types.Int range) o e h = let k : ⊥ = cc in k

truth_elsewhere : (slots : List Value) (declared : List IlType) (slot other : ℕ) (b : Bool) (z : ℤ)
    → AreOf slots declared → slice_get declared slot ≡ Some types.Bool → slice_get slots other ≡ Some (values.Int z)
    → slice_get (slice_set slots slot (values.Bool b)) other ≡ Some (values.Int z)
truth_elsewhere [] declared slot other b z a t e = absurd (cc)
truth_elsewhere (x ∷ xs) [] slot other b z a t e = absurd a
truth_elsewhere (x ∷ xs) (y ∷ ys) zero zero b z a t e =
    let p : y ≡ types.Bool = cc in
    let q : x ≡ values.Int z = cc in
    absurd (not_number z x y a.0 p q)
truth_elsewhere (x ∷ xs) (y ∷ ys) zero (suc other) b z a t e = e
truth_elsewhere (x ∷ xs) (y ∷ ys) (suc slot) zero b z a t e = e
truth_elsewhere (x ∷ xs) (y ∷ ys) (suc slot) (suc other) b z a t e =
    truth_elsewhere xs ys slot other b z a.1 t e

-- a truth value is stored
pub truth_marked : (slots : List Value) (declared : List IlType) (result : Option Value) (mark : Option ResultMark)
    (slot : ℕ)
    (b outcome : Bool) → AreOf slots declared → slice_get declared slot ≡ Some types.Bool
    → result ≡ Some (values.Bool outcome) → IsMarked slots result mark
    → IsMarked (slice_set slots slot (values.Bool b)) result mark
truth_marked slots declared result None slot b outcome a t r m = tt
truth_marked slots declared result (Some (Copy other)) slot b outcome a t r m = let e = m.is in absurd (cc)
truth_marked slots declared result (Some (Test other comparison limit)) slot b outcome a t r m = record {
  number = m.number;
  there = truth_elsewhere slots declared slot other b m.number a t m.there;
  outcome = m.outcome;
  tested = m.tested;
  is = m.is;
}

-- a number that was copied is stored
number_marked : (slots : List Value) (result : Option Value) (other slot : ℕ) (negated : Bool) (v : Value)
    → option_and_then (modified negated) result ≡ Some v → IsCopy slots result other
    → IsCopy (slice_set slots slot v) result other
number_marked slots result other slot true v e m =
    let h = sym e ∙ ap (option_and_then (modified true)) m.is in absurd (cc)
number_marked slots result other slot false v e m =
    let h = loaded_value result v e in
    record { number = m.number; there = set_same slots slot other v (m.there ∙ sym m.is ∙ h) ∙ sym h ∙ m.is; is = m.is }

truth_slot : (b : Bool) (type : IlType) → IsOf (values.Bool b) type → type ≡ types.Bool
truth_slot b types.Bool o = refl
truth_slot b (types.Int range) o = absurd o

not_modified : (negated outcome : Bool) (z : ℤ) → ¬ (modified negated (values.Bool outcome) ≡ Some (values.Int z))
not_modified true outcome z e = let k : ⊥ = cc in k
not_modified false outcome z e = let k : ⊥ = cc in k

pub store_marked : (slots : List Value) (declared : List IlType) (result : Option Value) (mark : Option ResultMark)
    (slot : ℕ)
    (negated : Bool) (v : Value) (type : IlType) → AreOf slots declared → slice_get declared slot ≡ Some type
    → IsOf v type → option_and_then (modified negated) result ≡ Some v → IsMarked slots result mark
    → IsMarked (slice_set slots slot v) result mark
store_marked slots declared result None slot negated v type a t o e m = tt
store_marked slots declared result (Some (Copy other)) slot negated v type a t o e m =
    number_marked slots result other slot negated v e m
store_marked slots declared result (Some (Test other comparison limit)) slot negated (values.Int z) type a t o e m =
    absurd (not_modified negated m.outcome z (sym (ap (option_and_then (modified negated)) m.is) ∙ e))
store_marked slots declared result (Some (Test other comparison limit)) slot negated (values.Bool b) type a t o e m =
    truth_marked slots declared result (Some (Test other comparison limit)) slot b m.outcome a
    (t ∙ ap (λ (x : IlType). Some x) (truth_slot b type o)) m.is m
