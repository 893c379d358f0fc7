-- What is known on the ways from a word stays within the types of the slots, and nothing is open where ways may meet.
use Rattle.std.proofs.Common.{◌≡◌, ℕ, zero, suc, ◌+◌, ℤ, Bool, true, false, cond, List, [], ◌∷◌, length, Option, Some}
use Rattle.std.proofs.Common.{None}
use Rattle.std.proofs.Common.{refl, sym, ap, ◌∙◌, subst, arith, inl, inr}
use Rattle.std.specs.Prelude.{IsTrue, map, slice_get, slice_set}
use Rattle.std.specs.List.{AllZip}
use Rattle.std.proofs.lemmas.Int.{ints}
use Rattle.iltypes.specs.declared.range.Range.{Range}
use Rattle.iltypes.specs.declared.value.IlType.{IlType}
use Rattle.iltypes.specs.declared.value.IlType.TheVariants as types
use Rattle.iltypes.specs.declared.value.Value.{Value}
use Rattle.iltypes.specs.declared.value.Value.TheVariants as values
use Rattle.iltypes.specs.Ranges.{IsWithin}
use Rattle.iltypes.specs.Values.{IsOf}
use Rattle.iltypes.specs.declared.condition.Condition.TheVariants.{Always, IfTrue, IfFalse}
use Rattle.iltypes.specs.declared.operator.Operator.{Operator}
use Rattle.ilcode.specs.declared.word.Word.{Word}
use Rattle.ilcode.specs.declared.word.Word.TheVariants as words
use Rattle.ilcode.specs.declared.word.Target.TheVariants.{Slot, Port}
use Rattle.ilcode.specs.Listings.{Listing, slots_end}
use Rattle.ilcode.specs.Steps.{is_start}
use Rattle.ilverify.specs.declared.cause.Cause.TheVariants as causes
use Rattle.ilverify.specs.declared.entry.Entry.{Entry}
use Rattle.ilverify.specs.declared.known.Known.{Known}
use Rattle.ilverify.specs.declared.known.Known.TheVariants as knowns
use Rattle.ilverify.specs.declared.mark.ResultMark.{ResultMark}
use Rattle.ilverify.specs.declared.mark.ResultMark.TheVariants.{Copy, Test}
use Rattle.ilverify.specs.declared.nesting.KnownOpened.{KnownOpened}
use Rattle.ilverify.specs.Entries.{IsOpenedInto, IsInto, opening, arriving}
use Rattle.ilverify.specs.Knowns.{IsKnown, IsKnownWithin, known_of_type}
use Rattle.ilverify.specs.Refusals.{HasToClose, StaysOpen, open_after}
use Rattle.ilverify.specs.Operands.{known_of}
use Rattle.ilverify.specs.Rules.{Ways, IsStored, Opens, Closes, IsEntryAfter, IsTested, IsRefined, AreWaysOf, IsRule}
use Rattle.ilverify.specs.Rules.{reset}
use Rattle.ilverify.proofs.Knowns.{known_self}
use Rattle.ilverify.proofs.WordParentheses.{after_count}
use Rattle.ilverify.specs.PassSteps.{AreTyped}

-- ---- slots stay within their types

-- what is stored is within the slot's type
known_typed : (stored : Known) (type : IlType) → ((value : Value) → IsKnown value stored → IsOf value type)
    → IsKnownWithin stored (known_of_type type)
known_typed knowns.Bool types.Bool h = tt
known_typed knowns.Bool (types.Int range) h = absurd (h (values.Bool true) tt)
known_typed (knowns.Int r) types.Bool h =
    absurd (h (values.Int r.lo) (record { low = omega (arith, ints); high = r.ordered }))
known_typed (knowns.Int r) (types.Int s) h =
    let low = h (values.Int r.lo) (record { low = omega (arith, ints); high = r.ordered }) in
    let high = h (values.Int r.hi) (record { low = r.ordered; high = omega (arith, ints) }) in
    record { low = low.low; high = high.high }

stored_typed : (negated : Bool) (result : Option Known) (type : Option IlType) (stored : Known) (its : IlType)
    → type ≡ Some its → IsStored negated result type stored → IsKnownWithin stored (known_of_type its)
stored_typed negated None type stored its e h = absurd h
stored_typed negated (Some result) None stored its e h = absurd h
stored_typed negated (Some result) (Some type) stored its e h =
    let q : type ≡ its = cc in
    subst (λ (t : IlType). IsKnownWithin stored (known_of_type t)) q (known_typed stored type h.1)

set_typed : (slots : List Known) (types : List IlType) (slot : ℕ) (stored : Known)
    → AllZip IsKnownWithin slots (map known_of_type types)
    → ((its : IlType) → slice_get types slot ≡ Some its → IsKnownWithin stored (known_of_type its))
    → AllZip IsKnownWithin (slice_set slots slot stored) (map known_of_type types)
set_typed [] [] slot stored h k = tt
set_typed [] (t ∷ ts) slot stored h k = absurd h
set_typed (x ∷ xs) [] slot stored h k = absurd h
set_typed (x ∷ xs) (t ∷ ts) zero stored h k = (k t refl, h.1)
set_typed (x ∷ xs) (t ∷ ts) (suc slot) stored h k = (h.0, set_typed xs ts slot stored h.1 k)

-- what is known more closely of a slot is within what was
kept_typed : (slots wider : List Known) (slot : ℕ) (kept range : Range) → AllZip IsKnownWithin slots wider
    → slice_get slots slot ≡ Some (knowns.Int range) → IsWithin kept range
    → AllZip IsKnownWithin (slice_set slots slot (knowns.Int kept)) wider
kept_typed [] wider slot kept range h e w = absurd (cc)
kept_typed (x ∷ xs) [] slot kept range h e w = absurd h
kept_typed (knowns.Bool ∷ xs) (y ∷ ys) zero kept range h e w = absurd (cc)
kept_typed (knowns.Int r ∷ xs) (knowns.Bool ∷ ys) zero kept range h e w = absurd h.0
kept_typed (knowns.Int r ∷ xs) (knowns.Int s ∷ ys) zero kept range h e w =
    let q : r ≡ range = cc in
    let v : IsWithin range s = subst (λ (t : Range). IsWithin t s) q h.0 in
    (record { low = omega (arith, ints); high = omega (arith, ints) }, h.1)
kept_typed (x ∷ xs) (y ∷ ys) (suc slot) kept range h e w = (h.0, kept_typed xs ys slot kept range h.1 e w)

-- ---- what is known where a test has one outcome

refined_slot : (wider : List Known) (entry way : Entry) (slot : ℕ) (comparison : Operator) (outcome : Bool) (limit : ℤ)
    (known : Option Known) → slice_get entry.slots slot ≡ known → AllZip IsKnownWithin entry.slots wider
    → IsTested entry slot comparison outcome limit known (Some way)
    → AllZip IsKnownWithin way.slots wider × (way.nesting ≡ entry.nesting)
refined_slot wider entry way slot comparison outcome limit None e t h =
    let q : entry ≡ way = cc in
    (subst (λ (x : Entry). AllZip IsKnownWithin x.slots wider) q t, sym (ap (λ (x : Entry). x.nesting) q))
refined_slot wider entry way slot comparison outcome limit (Some knowns.Bool) e t h =
    let q : entry ≡ way = cc in
    (subst (λ (x : Entry). AllZip IsKnownWithin x.slots wider) q t, sym (ap (λ (x : Entry). x.nesting) q))
refined_slot wider entry way slot comparison outcome limit (Some (knowns.Int range)) e t h =
    let low = h.least.low.of_range in
    let high = h.least.high.of_range in
    let w : IsWithin h.kept range = record { low = low.low; high = high.high } in (
      subst (λ (x : Entry). AllZip IsKnownWithin x.slots wider) (sym h.is)
          (kept_typed entry.slots wider slot h.kept range t e w),
      ap (λ (x : Entry). x.nesting) h.is,
    )

refined : (wider : List Known) (entry way : Entry) (outcome : Bool) (mark : Option ResultMark)
    → AllZip IsKnownWithin entry.slots wider → IsRefined entry outcome mark (Some way)
    → AllZip IsKnownWithin way.slots wider × (way.nesting ≡ entry.nesting)
refined wider entry way outcome None t h =
    let q : entry ≡ way = cc in
    (subst (λ (x : Entry). AllZip IsKnownWithin x.slots wider) q t, sym (ap (λ (x : Entry). x.nesting) q))
refined wider entry way outcome (Some (Copy slot)) t h =
    let q : entry ≡ way = cc in
    (subst (λ (x : Entry). AllZip IsKnownWithin x.slots wider) q t, sym (ap (λ (x : Entry). x.nesting) q))
refined wider entry way outcome (Some (Test slot comparison limit)) t h =
    refined_slot wider entry way slot comparison outcome limit (slice_get entry.slots slot) refl t h

-- ---- slots after a word

typed_at : (code : Listing) (entry after : Entry) → after ≡ entry → AreTyped code entry.slots
    → AreTyped code after.slots
typed_at code entry after e t = subst (λ (x : Entry). AreTyped code x.slots) (sym e) t

opens_typed : (code : Listing) (entry after : Entry) (operator : Operator) (result : Option Known)
    → AreTyped code entry.slots → Opens entry operator result after → AreTyped code after.slots
opens_typed code entry after operator None t h = absurd h
opens_typed code entry after operator (Some saved) t h = typed_at code _ after h t

closes_typed : (code : Listing) (entry after : Entry) (nesting : List KnownOpened) → AreTyped code entry.slots
    → Closes entry nesting after → AreTyped code after.slots
closes_typed code entry after [] t h = absurd h
closes_typed code entry after (innermost ∷ nesting) t h = typed_at code _ after h.is t

-- slots of functions that are known by their types again
reset_typed : (from to : ℕ) (types : List IlType) (slots : List Known)
    → AllZip IsKnownWithin slots (map known_of_type types)
    → AllZip IsKnownWithin (reset from to types slots) (map known_of_type types)
reset_typed zero zero types slots h = h
reset_typed (suc from) zero types slots h = h
reset_typed zero (suc to) [] slots h = h
reset_typed zero (suc to) (type ∷ types) [] h = h
reset_typed zero (suc to) (type ∷ types) (known ∷ slots) h =
    (known_self (known_of_type type), reset_typed zero to types slots h.1)
reset_typed (suc from) (suc to) [] slots h = h
reset_typed (suc from) (suc to) (type ∷ types) [] h = h
reset_typed (suc from) (suc to) (type ∷ types) (known ∷ slots) h = (h.0, reset_typed from to types slots h.1)

after_typed : (code : Listing) (place : ℕ) (entry : Entry) (word : Word) (after : Entry) → AreTyped code entry.slots
    → IsEntryAfter code place entry word after → AreTyped code after.slots
after_typed code place entry (words.Load negated operand) after t h = typed_at code _ after h.1.is t
after_typed code place entry (words.Apply operator operand) after t h = typed_at code _ after h.1.is t
after_typed code place entry (words.Transform function) after t h = typed_at code _ after h.is t
after_typed code place entry (words.Store negated (Slot slot)) after t h =
    typed_at code _ after h.1.is (set_typed entry.slots code.slots slot h.1.stored t
    (λ its e. stored_typed negated entry.result (slice_get code.slots slot) h.1.stored its e h.1.written))
after_typed code place entry (words.Store negated (Port port block)) after t h = typed_at code entry after h.1.is t
after_typed code place entry (words.Set variable) after t h = typed_at code entry after h.2 t
after_typed code place entry (words.Reset variable) after t h = typed_at code entry after h.2 t
after_typed code place entry (words.Pass port block operand) after t h = typed_at code _ after h.2.is t
after_typed code place entry (words.Call block) after t h = typed_at code _ after h.2 t
after_typed code place entry (words.Open operator) after t h = opens_typed code entry after operator entry.result t h
after_typed code place entry words.Close after t h = closes_typed code entry after entry.nesting t h
after_typed code place entry (words.Jump condition target) after t h = absurd h
after_typed code place entry (words.Give operand slot) after t h =
    typed_at code _ after h.2.is (set_typed entry.slots code.slots slot h.2.stored t
    (λ its e. stored_typed false (known_of code entry operand) (slice_get code.slots slot) h.2.stored its e h.2.given))
after_typed code place entry (words.Invoke function) after t h =
    typed_at code _ after h
    (reset_typed (slots_end code 0) (slots_end code (function + 1)) code.slots entry.slots t)

-- ---- slots and parentheses on a way

-- the slots are known within their types, and so many parentheses are open
pub record IsShaped (code : Listing) (count : ℕ) (way : Entry) : Type 0 where
  pub typed : AreTyped code way.slots
  pub count_is : length way.nesting ≡ count

refined_shaped : (code : Listing) (entry way : Entry) (outcome : Bool) (o : Option Entry) → AreTyped code entry.slots
    → o ≡ Some way → IsRefined entry outcome entry.mark o → IsShaped code (length entry.nesting) way
refined_shaped code entry way outcome o t e h =
    let r = refined (map known_of_type code.slots) entry way outcome entry.mark t
    (subst (IsRefined entry outcome entry.mark) e h) in
    record { typed = r.0; count_is = ap length r.1 }

-- on the way to the next place
pub next_shaped : (code : Listing) (place : ℕ) (entry way : Entry) (word : Word) (ways : Ways)
    → AreTyped code entry.slots → AreWaysOf code place entry word ways → ways.next ≡ Some way
    → IsShaped code (open_after word (length entry.nesting)) way
next_shaped code place entry way (words.Jump Always target) ways t h e = let n = h.1 in absurd (cc)
next_shaped code place entry way (words.Jump IfTrue target) ways t h e =
    refined_shaped code entry way false ways.next t e h.1
next_shaped code place entry way (words.Jump IfFalse target) ways t h e =
    refined_shaped code entry way true ways.next t e h.1
next_shaped code place entry way word ways t h e =
    let n = h.next in
    let q : h.after ≡ way = cc in
    subst (IsShaped code (open_after word (length entry.nesting))) q (record {
      typed = after_typed code place entry word h.after t h.leaves;
      count_is = after_count code place entry word h.after h.leaves;
    })

-- on the way to a jump's target
pub target_shaped : (code : Listing) (place : ℕ) (entry way : Entry) (word : Word) (ways : Ways)
    → AreTyped code entry.slots → AreWaysOf code place entry word ways → ways.target ≡ Some way
    → IsShaped code (open_after word (length entry.nesting)) way
target_shaped code place entry way (words.Jump Always target) ways t h e =
    let n = h.0 in
    let q : entry ≡ way = cc in
    subst (IsShaped code (length entry.nesting)) q (record { typed = t; count_is = refl })
target_shaped code place entry way (words.Jump IfTrue target) ways t h e =
    refined_shaped code entry way true ways.target t e h.0
target_shaped code place entry way (words.Jump IfFalse target) ways t h e =
    refined_shaped code entry way false ways.target t e h.0
target_shaped code place entry way word ways t h e = let n = h.target in let k : ⊥ = cc in absurd k

-- ---- where nothing may be open

pub met_closes : (code : Listing) (place : ℕ) (met : Bool) (word : Word) → IsTrue met
    → HasToClose code place met word
met_closes code place met (words.Jump condition target) h = tt
met_closes code place met word h = inr (inr h)

pub target_closes : (code : Listing) (place : ℕ) (met : Bool) (entry way : Entry) (word : Word) (ways : Ways)
    → AreWaysOf code place entry word ways → ways.target ≡ Some way → HasToClose code place met word
target_closes code place met entry way (words.Jump condition target) ways h e = tt
target_closes code place met entry way word ways h e = let n = h.target in let k : ⊥ = cc in absurd k

no_count : (code : Listing) (place : ℕ) (met : Bool) (word : Word) (count : ℕ)
    → ¬ StaysOpen code place met word count → HasToClose code place met word → count ≡ 0
no_count code place met word zero n h = refl
no_count code place met word (suc count) n h = absurd (n (inl (omega arith, h)))

-- where nothing may be open after a word that has a rule, nothing is
closed_after : (code : Listing) (place : ℕ) (met : Bool) (entry : Entry) (word : Word) (ways : Ways)
    → IsRule code place met entry word ways → HasToClose code place met word
    → open_after word (length entry.nesting) ≡ 0
closed_after code place met entry word ways r h =
    no_count code place met word (open_after word (length entry.nesting)) (r.lawful causes.OpenNesting) h

nothing : (nesting : List KnownOpened) → length nesting ≡ 0 → nesting ≡ []
nothing [] e = refl
nothing (x ∷ xs) e = absurd (omega arith)

bounded : (code : Listing) (start : Bool) (way : Entry) → AreTyped code way.slots → way.nesting ≡ []
    → IsInto (cond start (record way { result = None; mark = None }) way) (opening code)
bounded code true way t n = record {
  slots = t;
  result = tt;
  mark = tt;
  nesting = subst (λ (xs : List KnownOpened). AllZip IsOpenedInto xs []) (sym n) tt;
}
bounded code false way t n = record {
  slots = t;
  result = tt;
  mark = tt;
  nesting = subst (λ (xs : List KnownOpened). AllZip IsOpenedInto xs []) (sym n) tt;
}

-- such a way says nothing more than what is known before the first word
pub closed_bounded : (code : Listing) (place to : ℕ) (met : Bool) (entry way : Entry) (word : Word) (ways : Ways)
    → IsRule code place met entry word ways → HasToClose code place met word
    → IsShaped code (open_after word (length entry.nesting)) way → IsInto (arriving code to way) (opening code)
closed_bounded code place to met entry way word ways r h s =
    bounded code (is_start code to) way s.typed
    (nothing way.nesting (s.count_is ∙ closed_after code place met entry word ways r h))

-- the slots stay as they are where the way arrives
pub arriving_typed : (code : Listing) (start : Bool) (way : Entry) → AreTyped code way.slots
    → AreTyped code (cond start (record way { result = None; mark = None }) way).slots
arriving_typed code true way t = t
arriving_typed code false way t = t
