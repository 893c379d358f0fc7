-- What is known after a call of a function holds where its caller goes on, and a body writes no slots but those that
-- are known by their types then.
use Rattle.std.proofs.Common.{◌≡◌, ℕ, zero, suc, ◌+◌, ◌<◌, ◌≤◌, ◌⊎◌, inl, inr, Bool, true, false, List, [], ◌∷◌}
use Rattle.std.proofs.Common.{Option, Some, None, refl, sym, ap, ◌∙◌, subst, arith}
use Rattle.std.specs.Prelude.{IsTrue, slice_get, slice_set, ◌&&◌, ◌||◌, nat_le}
use Rattle.std.specs.List.{AllZip, list_any}
use Rattle.std.specs.Option.{option_map, option_and_then}
use Rattle.std.proofs.lemmas.Bool.Decides.{nat_tests}
use Rattle.iltypes.specs.declared.value.IlType.{IlType}
use Rattle.iltypes.specs.declared.value.Value.{Value}
use Rattle.iltypes.specs.Values.{AreOf}
use Rattle.ilcode.specs.Stores.{Store, IsStoreOf, slot_value}
use Rattle.ilcode.specs.declared.function.FunctionBody.{FunctionBody}
use Rattle.ilcode.specs.declared.word.Word.TheVariants as words
use Rattle.ilcode.specs.Listings.{Listing, IsLawful, shape_of, slots_start, slots_end, result_slot}
use Rattle.ilcode.specs.Steps.{Configuration, at, left_by}
use Rattle.ilcode.proofs.Bodies.{slots_rise, slots_there}
use Rattle.ilverify.specs.declared.entry.Entry.{Entry}
use Rattle.ilverify.specs.declared.known.Known.{Known}
use Rattle.ilverify.specs.Fits.{IsResultKnown, Fits}
use Rattle.ilverify.specs.Knowns.{IsKnown, known_of_type}
use Rattle.ilverify.specs.Operands.{known_of_result, is_own, is_input, is_before, is_writable}
use Rattle.ilverify.specs.Rules.{reset, returned}
use Rattle.ilverify.specs.Safety.{IsWrittenBy, IsFitAtReturn, KeepsOthers}
use Rattle.ilverify.proofs.Knowns.{of_known}
use Rattle.ilverify.proofs.SafetySteps.{closed_there}

-- ---- slots that were reset

same_known : (old new : List Value) (known : List Known) → AllZip IsKnown old known
    → ((slot : ℕ) → slice_get new slot ≡ slice_get old slot) → AllZip IsKnown new known
same_known [] [] [] h same = tt
same_known [] [] (k ∷ ks) h same = absurd h
same_known [] (y ∷ ys) known h same = let e = same 0 in absurd (cc)
same_known (x ∷ xs) [] known h same = let e = same 0 in absurd (cc)
same_known (x ∷ xs) (y ∷ ys) [] h same = absurd h
same_known (x ∷ xs) (y ∷ ys) (k ∷ ks) h same =
    let e = same 0 in
    let q : x ≡ y = cc in
    (subst (λ (v : Value). IsKnown v k) q h.0, same_known xs ys ks h.1 (λ slot. same (suc slot)))

-- outside the slots from one number on and up to another
abbrev IsOutside : ℕ → ℕ → ℕ → Type 0
IsOutside from to slot = (slot < from) ⊎ (to ≤ slot)

later : (from to slot : ℕ) → IsOutside from to slot → IsOutside (suc from) (suc to) (suc slot)
later from to slot (inl l) = inl (omega (arith, l))
later from to slot (inr l) = inr (omega (arith, l))

later_on : (to slot : ℕ) → IsOutside 0 to slot → IsOutside 0 (suc to) (suc slot)
later_on to slot (inl l) = absurd (omega (arith, l))
later_on to slot (inr l) = inr (omega (arith, l))

abbrev AreSame : ℕ → ℕ → List Value → List Value → Type 0
AreSame from to old new = (slot : ℕ) → IsOutside from to slot → slice_get new slot ≡ slice_get old slot

reset_known : (from to : ℕ) (types : List IlType) (old new : List Value) (known : List Known)
    → AllZip IsKnown old known → AreOf old types → AreOf new types → AreSame from to old new
    → AllZip IsKnown new (reset from to types known)
reset_known zero zero types old new known h a b same =
    same_known old new known h (λ slot. same slot (inr (omega arith)))
reset_known (suc from) zero types old new known h a b same =
    same_known old new known h (λ slot. same slot (inr (omega arith)))
reset_known zero (suc to) [] [] [] known h a b same = h
reset_known (suc from) (suc to) [] [] [] known h a b same = h
reset_known zero (suc to) [] (x ∷ xs) new known h a b same = absurd a
reset_known (suc from) (suc to) [] (x ∷ xs) new known h a b same = absurd a
reset_known zero (suc to) [] [] (y ∷ ys) known h a b same = absurd b
reset_known (suc from) (suc to) [] [] (y ∷ ys) known h a b same = absurd b
reset_known zero (suc to) (t ∷ ts) [] new known h a b same = absurd a
reset_known (suc from) (suc to) (t ∷ ts) [] new known h a b same = absurd a
reset_known zero (suc to) (t ∷ ts) (x ∷ xs) [] known h a b same = absurd b
reset_known (suc from) (suc to) (t ∷ ts) (x ∷ xs) [] known h a b same = absurd b
reset_known zero (suc to) (t ∷ ts) (x ∷ xs) (y ∷ ys) [] h a b same = absurd h
reset_known (suc from) (suc to) (t ∷ ts) (x ∷ xs) (y ∷ ys) [] h a b same = absurd h
reset_known zero (suc to) (t ∷ ts) (x ∷ xs) (y ∷ ys) (k ∷ ks) h a b same = (
  of_known y t b.0,
  reset_known zero to ts xs ys ks h.1 a.1 b.1 (λ slot o. same (suc slot) (later_on to slot o)),
)
reset_known (suc from) (suc to) (t ∷ ts) (x ∷ xs) (y ∷ ys) (k ∷ ks) h a b same =
    let e = same 0 (inl (omega arith)) in
    let q : x ≡ y = cc in (
      subst (λ (v : Value). IsKnown v k) q h.0,
      reset_known from to ts xs ys ks h.1 a.1 b.1 (λ slot o. same (suc slot) (later from to slot o)),
    )

-- ---- the result that a function leaves

typed_known : (values : List Value) (types : List IlType) (slot : ℕ) → AreOf values types
    → IsResultKnown (slice_get values slot) (option_map known_of_type (slice_get types slot))
typed_known [] [] slot h = tt
typed_known [] (t ∷ ts) slot h = absurd h
typed_known (v ∷ vs) [] slot h = absurd h
typed_known (v ∷ vs) (t ∷ ts) zero h = of_known v t h.0
typed_known (v ∷ vs) (t ∷ ts) (suc slot) h = typed_known vs ts slot h.1

abbrev left_of : Store → Option FunctionBody → Option Value
left_of store o = option_and_then (λ f. slot_value store (result_slot f)) o

left_known : (code : Listing) (store : Store) (function : ℕ) → IsStoreOf (shape_of code) store
    → IsResultKnown (left_by code store function) (known_of_result code (slice_get code.functions function))
left_known code store function a =
    elim (slice_get code.functions function) as (λ o. IsResultKnown (left_of store o) (known_of_result code o)) [
      | None ↦ tt
      | Some f ↦ typed_known store.slots code.slots (result_slot f) a.slots
    ]

-- ---- where the caller goes on

returned_fits : (code : Listing) (function : ℕ) (entry : Entry) (c : Configuration) (store : Store)
    → Fits code entry c → IsStoreOf (shape_of code) store → IsWrittenBy code function c.store.slots store.slots
    → Fits code (returned code entry function)
    (at (c.place + 1) store (left_by code store function) c.nesting c.calls)
returned_fits code function entry c store f a w = record {
  typed = a;
  slots = reset_known (slots_end code 0) (slots_end code (function + 1)) code.slots c.store.slots store.slots
      entry.slots f.slots f.typed.slots a.slots w;
  result = left_known code store function a;
  mark = tt;
  nesting = f.nesting;
}

pub fit_return : IsFitAtReturn
fit_return code met entry ways c function store rule f a w =
    let to = at (c.place + 1) store (left_by code store function) c.nesting c.calls in
    let g = rule.leaves in
    let fits = subst (λ (e : Entry). Fits code e to) (sym g.leaves)
    (returned_fits code function entry c store f a w) in
    record {
      after = g.after;
      way = g.next;
      only = g.target;
      fits = fits;
      closed = closed_there code met entry g.after ways c to (words.Invoke function) rule (refl, g.next) fits;
    }

-- ---- which slots a body writes

record HasInput (slot : ℕ) (fs : List FunctionBody) : Type 0 where
  number : ℕ
  function : FunctionBody
  is : slice_get fs number ≡ Some function
  input : IsTrue (is_input slot function)

input_step : (slot : ℕ) (f : FunctionBody) (fs : List FunctionBody) (b : Bool) → is_input slot f ≡ b
    → (IsTrue (list_any (is_input slot) fs) → HasInput slot fs) → IsTrue (b || list_any (is_input slot) fs)
    → HasInput slot (f ∷ fs)
input_step slot f fs true e more h = record { number = 0; function = f; is = refl; input = e }
input_step slot f fs false e more h =
    let a = more h in record { number = suc a.number; function = a.function; is = a.is; input = a.input }

input_there : (slot : ℕ) (fs : List FunctionBody) → IsTrue (list_any (is_input slot) fs) → HasInput slot fs
input_there slot [] h = let k : ⊥ = cc in absurd k
input_there slot (f ∷ fs) h = input_step slot f fs (is_input slot f) refl (input_there slot fs) h

both_of : (a b : Bool) → IsTrue (a && b) → IsTrue a × IsTrue b
both_of true b h = (refl, h)
both_of false b h = let k : ⊥ = cc in absurd k

either_of : (a b : Bool) → IsTrue (a || b) → IsTrue a ⊎ IsTrue b
either_of true b h = inl refl
either_of false b h = inr h

-- a slot of the function or of one before it
record IsWithinSlots (code : Listing) (function slot : ℕ) : Type 0 where
  from : slots_end code 0 ≤ slot
  to : slot < slots_end code (function + 1)

own_within : (code : Listing) → IsLawful code → (function slot : ℕ) → IsTrue (is_own code (suc function) slot)
    → IsWithinSlots code function slot
own_within code lawful function slot h =
    let rise = slots_rise code lawful 0 function (omega arith) in
    let e : function + 1 ≡ suc function = omega arith in
    let s = ap (slots_end code) e in
    let parts = both_of (nat_le (slots_start code (suc function)) slot) _ h in
    let p = parts.0 in
    let q = parts.1 in
    let x : slots_end code function ≤ slot = grind (arith, nat_tests) in
    let y : slot < slots_end code (suc function) = grind (arith, nat_tests) in
    record { from = omega (arith, rise, x); to = omega (arith, y, s) }

input_within : (code : Listing) → IsLawful code → (function slot : ℕ) → slot < slots_end code function
    → HasInput slot code.functions → IsWithinSlots code function slot
input_within code lawful function slot lt h =
    let f = h.function in
    let m = (both_of (nat_le f.first slot) _ h.input).0 in
    let le : f.first ≤ slot = grind (arith, nat_tests) in
    let first = slots_there code h.number f h.is in
    let rise = slots_rise code lawful 0 h.number (omega arith) in
    let more = slots_rise code lawful function (function + 1) (omega arith) in
    record { from = omega (arith, rise, first, le); to = omega (arith, more, lt) }

written_within : (code : Listing) → IsLawful code → (function slot : ℕ)
    → IsTrue (is_writable code (suc function) slot) → IsWithinSlots code function slot
written_within code lawful function slot w = elim (either_of (is_own code (suc function) slot) _ w) [
  | inl own ↦ own_within code lawful function slot own
  | inr input ↦
      let i = both_of (is_before code (suc function) slot) _ input in
      let b = i.0 in
      let lt : slot < slots_end code function = grind (arith, nat_tests) in
      input_within code lawful function slot lt (input_there slot code.functions i.1)
]

other_set : (values : List Value) (written slot : ℕ) (value : Value) → ¬ (slot ≡ written)
    → slice_get (slice_set values written value) slot ≡ slice_get values slot
other_set [] written slot value n = refl
other_set (x ∷ xs) zero zero value n = absurd (n refl)
other_set (x ∷ xs) zero (suc slot) value n = refl
other_set (x ∷ xs) (suc written) zero value n = refl
other_set (x ∷ xs) (suc written) (suc slot) value n =
    other_set xs written slot value (λ e. n (omega (arith, e)))

not_inside : (code : Listing) (function slot written : ℕ) → IsWithinSlots code function written
    → IsOutside (slots_end code 0) (slots_end code (function + 1)) slot → ¬ (slot ≡ written)
not_inside code function slot written w (inl l) e = omega (arith, w.from, l, e)
not_inside code function slot written w (inr l) e = omega (arith, w.to, l, e)

pub keeps_others : KeepsOthers
keeps_others code lawful place function old new b (inl e) slot outside =
    ap (λ (values : List Value). slice_get values slot) e
keeps_others code lawful place function old new b (inr w) slot outside =
    let e : function + 1 ≡ suc function = omega arith in
    let may = subst (λ (body : ℕ). IsTrue (is_writable code body w.slot)) (b ∙ e) w.may in
    let inside = written_within code lawful function w.slot may in
    ap (λ (values : List Value). slice_get values slot) w.is
    ∙ other_set old w.slot slot w.value (not_inside code function slot w.slot inside outside)

-- what a function's body writes a later function's body may have written
pub written_later : (code : Listing) → IsLawful code → (function other : ℕ) (old new : List Value) → function ≤ other
    → IsWrittenBy code function old new → IsWrittenBy code other old new
written_later code lawful function other old new le w slot (inl l) = w slot (inl l)
written_later code lawful function other old new le w slot (inr l) =
    w slot (inr (omega (arith, l, slots_rise code lawful (function + 1) (other + 1) (omega (arith, le)))))

pub written_both : (code : Listing) (function : ℕ) (one two three : List Value) → IsWrittenBy code function one two
    → IsWrittenBy code function two three → IsWrittenBy code function one three
written_both code function one two three v w slot outside = w slot outside ∙ v slot outside
