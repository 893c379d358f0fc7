-- Where a cause arises at a store, a call, a parenthesis or a jump, the word is undefined in some run.
use Rattle.std.proofs.Common.{◌≡◌, ℕ, ℤ, Bool, true, false, Option, Some, None}
use Rattle.std.proofs.Common.{refl, sym, ap, ◌∙◌, subst, ◌⊎◌, inl, inr}
use Rattle.std.specs.Prelude.{IsNone, is_some, IsTrue, ◌&&◌, ◌≤ℤ◌, int_le, T}
use Rattle.std.specs.Option.{option_and_then}
use Rattle.iltypes.specs.declared.range.Range.{Range}
use Rattle.iltypes.specs.declared.value.IlType.{IlType}
use Rattle.iltypes.specs.declared.value.IlType.TheVariants as types
use Rattle.iltypes.specs.declared.value.Value.{Value}
use Rattle.iltypes.specs.declared.value.Value.TheVariants as values
use Rattle.iltypes.specs.Functions.{modified}
use Rattle.iltypes.specs.Ranges.{Holds, IsWithin}
use Rattle.iltypes.specs.Values.{IsOf}
use Rattle.iltypes.proofs.Limits.{holds_low, holds_high}
use Rattle.ilcode.specs.Stores.{Store, type_of_input}
use Rattle.ilcode.specs.declared.word.WordOperand.{WordOperand}
use Rattle.ilcode.specs.declared.word.Target.{Target}
use Rattle.ilcode.specs.declared.word.Target.TheVariants as variables
use Rattle.ilcode.specs.declared.word.Word.{Word}
use Rattle.ilcode.specs.declared.word.Word.TheVariants as words
use Rattle.ilcode.specs.Listings.{Listing, shape_of}
use Rattle.ilcode.specs.Steps.{Configuration, value_of, stored_at, with_store, sets}
use Rattle.ilcode.specs.Steps.{effect}
use Rattle.ilverify.specs.declared.cause.Cause.{Cause}
use Rattle.ilverify.specs.declared.cause.Cause.TheVariants as causes
use Rattle.ilverify.specs.declared.entry.Entry.{Entry}
use Rattle.ilverify.specs.declared.known.Known.{Known}
use Rattle.ilverify.specs.declared.known.Known.TheVariants as knowns
use Rattle.ilverify.specs.CauseLaws.{IsUndefined, IsTyped, IsOfStep, IsOthers, NamesOthers, IsWrong}
use Rattle.ilverify.specs.Fits.{IsResultKnown}
use Rattle.ilverify.specs.Knowns.{ArisesAtStore}
use Rattle.ilverify.specs.Operands.{known_of, type_of_variable, in_programs, may_name, may_set, may_store, may_write}
use Rattle.ilverify.specs.Refusals.{MayBe, MayTake, IsWrongForStore, IsWrongForSet, IsNotNamed}
use Rattle.ilverify.specs.Refusals.{IsNotWritten, IsOutOfSlot, ArisesAtWord}
use Rattle.ilverify.proofs.Knowns.{kind_of_known, of_kind}
use Rattle.ilverify.proofs.UndefinedStores.{none_of, some_of, some_known, alike_kind}
use Rattle.ilverify.proofs.UndefinedStores.{base, base_chosen, not_stored, no_input}
use Rattle.ilverify.proofs.UndefinedStores.{result_of, result_known, nesting_of, stands, undefined_with}
use Rattle.ilverify.proofs.UndefinedOperators.{IsChoice, choice, AreAlike}
use Rattle.ilverify.proofs.UndefinedValues.{operand_of}

-- ---- what cannot be stored

-- a value of no kind that the variable takes
wrong_store : (code : Listing) (s : Store) (variable : Target) (value : Value)
    → ¬ MayTake (type_of_variable code variable) value → stored_at code s variable value ≡ None
wrong_store code s variable value h =
    not_stored code s variable value
    (λ type e of. h (subst (λ (o : Option IlType). MayTake o value) (sym e) (of_kind value type of)))

-- what is stored to is not in its table
no_variable : (code : Listing) (s : Store) (variable : Target) (value : Value)
    → IsNone (type_of_variable code variable) → stored_at code s variable value ≡ None
no_variable code s variable value h =
    not_stored code s variable value
    (λ type e of. let none = none_of (type_of_variable code variable) h in absurd (cc))

-- a number that is known so, and that the variable does not take
record IsTooFar (known : Option Known) (type : Option IlType) : Type 0 where
  number : ℤ
  range : Range
  is : known ≡ Some (knowns.Int range)
  holds : Holds range number
  out : (t : IlType) → type ≡ Some t → ¬ IsOf (values.Int number) t

by_low : (found allowed : Range) (low : Bool) → int_le allowed.lo found.lo ≡ low → ¬ IsWithin found allowed
    → (¬ (allowed.lo ≤ℤ found.lo)) ⊎ (¬ (found.hi ≤ℤ allowed.hi))
by_low found allowed true e h = inr (λ high. h (record { low = record { le = subst T (sym e) tt }; high = high }))
by_low found allowed false e h = inl (λ low. subst T e low.le)

-- one of its limits lies outside
first_out : (found allowed : Range) → ¬ IsWithin found allowed
    → (¬ (allowed.lo ≤ℤ found.lo)) ⊎ (¬ (found.hi ≤ℤ allowed.hi))
first_out found allowed h = by_low found allowed (int_le allowed.lo found.lo) refl h

too_far : (known : Known) (type : IlType) (found allowed : Range)
    → ArisesAtStore known type (causes.OutOfRange found allowed) → IsTooFar (Some known) (Some type)
too_far knowns.Bool types.Bool found allowed h = absurd h
too_far knowns.Bool (types.Int range) found allowed h = absurd h
too_far (knowns.Int f) types.Bool found allowed h = absurd h
too_far (knowns.Int f) (types.Int a) found allowed h = elim (first_out f a h.2) [
  | inl low ↦ record {
    number = f.lo;
    range = f;
    is = refl;
    holds = holds_low f;
    out = λ t e of. let same : types.Int a ≡ t = cc in low (subst (IsOf (values.Int f.lo)) (sym same) of).low;
  }
  | inr high ↦ record {
    number = f.hi;
    range = f;
    is = refl;
    holds = holds_high f;
    out = λ t e of. let same : types.Int a ≡ t = cc in high (subst (IsOf (values.Int f.hi)) (sym same) of).high;
  }
]

out_of_slot : (known : Option Known) (type : Option IlType) (found allowed : Range)
    → IsOutOfSlot known type found allowed → IsTooFar known type
out_of_slot None type found allowed h = absurd h
out_of_slot (Some known) None found allowed h = absurd h
out_of_slot (Some known) (Some type) found allowed h = too_far known type found allowed h

far_store : (code : Listing) (s : Store) (variable : Target) (number : ℤ)
    → ((t : IlType) → type_of_variable code variable ≡ Some t → ¬ IsOf (values.Int number) t)
    → stored_at code s variable (values.Int number) ≡ None
far_store code s variable number h = not_stored code s variable (values.Int number) h

-- a port that the body may not name, or an output
by_programs : (programs input : Bool) → ¬ IsTrue (programs && input) → (¬ IsTrue programs) ⊎ (¬ IsTrue input)
by_programs true input h = inr h
by_programs false input h = inl (λ e. absurd (cc))

-- nothing comes of nothing, nor of what nothing comes of
through : {A B : Type 0} (f : A → Option B) (o : Option A) → ((x : A) → o ≡ Some x → f x ≡ None)
    → option_and_then f o ≡ None
through f None h = refl
through f (Some x) h = h x refl

-- a number that N keeps is the same
number_kept : (negated : Bool) (number : ℤ) (value : Value) → modified negated (values.Int number) ≡ Some value
    → values.Int number ≡ value
number_kept true number value e = absurd (cc)
number_kept false number value e = cc

absent : (code : Listing) (s : Store) (variable : Target) (given : Option Value) → AreAlike None given
    → option_and_then (stored_at code s variable) given ≡ None
absent code s variable None a = refl
absent code s variable (Some given) a = absurd a

-- ---- ST

-- where the value that is stored has no place
store_by : (code : Listing) (place : ℕ) (entry : Entry) (negated : Bool) (variable : Target) (result : Option Value)
    → IsTyped code entry → IsResultKnown result entry.result
    → option_and_then (stored_at code (base code entry) variable) (option_and_then (modified negated) result) ≡ None
    → IsUndefined code place entry (words.Store negated variable)
store_by code place entry negated variable result t k e =
    let c = stands code place (base code entry) result (nesting_of entry.nesting) in
    undefined_with code place entry (words.Store negated variable) (base code entry) result
    (base_chosen code entry t) k (ap (with_store c) e)

modified_store : (code : Listing) (s : Store) (negated : Bool) (variable : Target) (value : Value)
    → ((x : Value) → modified negated value ≡ Some x → stored_at code s variable x ≡ None)
    → option_and_then (stored_at code s variable) (modified negated value) ≡ None
modified_store code s negated variable value h = through (stored_at code s variable) (modified negated value) h

wrong_known : (code : Listing) (place : ℕ) (entry : Entry) (negated : Bool) (variable : Target) (known : Option Known)
    → IsTyped code entry → entry.result ≡ known → IsWrongForStore negated known (type_of_variable code variable)
    → IsUndefined code place entry (words.Store negated variable)
wrong_known code place entry negated variable None t e h =
    store_by code place entry negated variable None t (subst (IsResultKnown None) (sym e) tt) refl
wrong_known code place entry negated variable (Some known) t e h =
    let value = some_of known in
    store_by code place entry negated variable (Some value) t
    (subst (IsResultKnown (Some value)) (sym e) (some_known known))
    (modified_store code (base code entry) negated variable value
    (λ x m. wrong_store code (base code entry) variable x
    (h value x (kind_of_known value known (some_known known)) m)))

no_result_known : (code : Listing) (place : ℕ) (entry : Entry) (negated : Bool) (variable : Target)
    (known : Option Known) → IsTyped code entry → entry.result ≡ known → IsNone known
    → IsUndefined code place entry (words.Store negated variable)
no_result_known code place entry negated variable None t e h =
    store_by code place entry negated variable None t (subst (IsResultKnown None) (sym e) tt) refl
no_result_known code place entry negated variable (Some known) t e h = absurd (cc)

far_known : (code : Listing) (place : ℕ) (entry : Entry) (negated : Bool) (variable : Target) → IsTyped code entry
    → IsTooFar entry.result (type_of_variable code variable)
    → IsUndefined code place entry (words.Store negated variable)
far_known code place entry negated variable t f =
    let value = values.Int f.number in
    store_by code place entry negated variable (Some value) t
    (subst (IsResultKnown (Some value)) (sym f.is) f.holds)
    (modified_store code (base code entry) negated variable value
    (λ x m. subst (λ (v : Value). stored_at code (base code entry) variable v ≡ None)
    (number_kept negated f.number x m) (far_store code (base code entry) variable f.number f.out)))

-- whatever the result is
never_stored : (code : Listing) (place : ℕ) (entry : Entry) (negated : Bool) (variable : Target) → IsTyped code entry
    → ((x : Value) → stored_at code (base code entry) variable x ≡ None)
    → IsUndefined code place entry (words.Store negated variable)
never_stored code place entry negated variable t h =
    let result = result_of entry.result in
    store_by code place entry negated variable result t (result_known entry.result)
    (through (stored_at code (base code entry) variable) (option_and_then (modified negated) result) (λ x e. h x))

-- of an input of a block ST and STN are the same
port_unwritten : (negated : Bool) (code : Listing) (place port block : ℕ)
    → ¬ IsTrue (may_store negated code place (variables.Port port block))
    → ¬ IsTrue (may_write code place (variables.Port port block))
port_unwritten false code place port block may = may
port_unwritten true code place port block may = may

store_unwritten : (code : Listing) (place : ℕ) (entry : Entry) (negated : Bool) (variable : Target) → IsTyped code entry
    → IsNotWritten (type_of_variable code variable) (may_store negated code place variable)
    → IsUndefined code place entry (words.Store negated variable)
    ⊎ IsOthers (may_store negated code place variable) code place variable
store_unwritten code place entry negated variable t (inl none) =
    inl (never_stored code place entry negated variable t (λ x. no_variable code (base code entry) variable x none))
store_unwritten code place entry negated (variables.Slot slot) t (inr may) = inr may
store_unwritten code place entry negated (variables.Port port block) t (inr may) =
    elim (by_programs (in_programs code place) (is_some (type_of_input (shape_of code) block port))
    (port_unwritten negated code place port block may)) [
      | inl programs ↦ inr programs
      | inr input ↦
          inl (never_stored code place entry negated (variables.Port port block) t
          (λ x. no_input code (base code entry) port block x input))
    ]

pub store : (code : Listing) (place : ℕ) (met : Bool) (entry : Entry) (negated : Bool) (variable : Target)
    (cause : Cause)
    → IsTyped code entry → IsOfStep cause → ArisesAtWord code place met entry (words.Store negated variable) cause
    → IsWrong code place entry (words.Store negated variable) cause
store code place met entry negated variable causes.WrongType t s h =
    wrong_known code place entry negated variable entry.result t refl h
store code place met entry negated variable causes.NoResult t s h =
    no_result_known code place entry negated variable entry.result t refl h
store code place met entry negated variable (causes.OutOfRange found allowed) t s h =
    far_known code place entry negated variable t
    (out_of_slot entry.result (type_of_variable code variable) found allowed h)
store code place met entry negated variable causes.BadSlot t s h =
    store_unwritten code place entry negated variable t h
store code place met entry negated variable causes.EmptyNesting t s h = absurd h
store code place met entry negated variable causes.OpenNesting t s h = absurd s
store code place met entry negated variable causes.MayBeZero t s h = absurd h
store code place met entry negated variable causes.TooBig t s h = absurd h
store code place met entry negated variable causes.BadJump t s h = absurd h
store code place met entry negated variable causes.TooManyRequests t s h = absurd s
store code place met entry negated variable causes.TooLong t s h = absurd s
store code place met entry negated variable causes.BadCall t s h = absurd s

-- ---- S and R, from a result that is TRUE where it may be

set_none : (code : Listing) (c : Configuration) (variable : Target) (truth : Bool) (known : Option Known)
    → ((known ≡ Some knowns.Bool) → stored_at code c.store variable (values.Bool truth) ≡ None)
    → sets code c variable truth (result_of known) ≡ None
set_none code c variable truth None h = refl
set_none code c variable truth (Some (knowns.Int range)) h = refl
set_none code c variable truth (Some knowns.Bool) h = ap (with_store c) (h refl)

-- the truth value has no place, or there is none
record IsUnset (code : Listing) (known : Option Known) (variable : Target) : Type 0 where
  none : (s : Store) (truth : Bool) → known ≡ Some knowns.Bool → stored_at code s variable (values.Bool truth) ≡ None

set_by : (code : Listing) (place : ℕ) (entry : Entry) (variable : Target) → IsTyped code entry
    → IsUnset code entry.result variable
    → IsUndefined code place entry (words.Set variable) × IsUndefined code place entry (words.Reset variable)
set_by code place entry variable t u =
    let result = result_of entry.result in
    let c = stands code place (base code entry) result (nesting_of entry.nesting) in (
      undefined_with code place entry (words.Set variable) (base code entry) result (base_chosen code entry t)
          (result_known entry.result)
          (set_none code c variable true entry.result (u.none (base code entry) true)),
      undefined_with code place entry (words.Reset variable) (base code entry) result (base_chosen code entry t)
          (result_known entry.result)
          (set_none code c variable false entry.result (u.none (base code entry) false)),
    )

truths_take : (type : Option IlType) (a b : Bool) → MayTake type (values.Bool a) → MayTake type (values.Bool b)
truths_take None a b h = tt
truths_take (Some types.Bool) a b h = tt
truths_take (Some (types.Int range)) a b h = absurd h

unset_wrong : (code : Listing) (known : Option Known) (variable : Target)
    → IsWrongForSet known (type_of_variable code variable) → IsUnset code known variable
unset_wrong code known variable (inl result) = record {
  none = λ s truth e. absurd (result (subst (λ (k : Option Known). MayBe (values.Bool true) k) (sym e) tt));
}
unset_wrong code known variable (inr type) = record {
  none = λ s truth e. wrong_store code s variable (values.Bool truth)
      (λ m. type (truths_take (type_of_variable code variable) truth true m));
}

unset_absent : (code : Listing) (known : Option Known) (variable : Target) → IsNone known → IsUnset code known variable
unset_absent code None variable h = record { none = λ s truth e. absurd (cc) }
unset_absent code (Some known) variable h = absurd (cc)

unset_unwritten : (code : Listing) (place : ℕ) (known : Option Known) (variable : Target)
    → IsNotWritten (type_of_variable code variable) (may_set code place variable)
    → IsUnset code known variable ⊎ IsOthers (may_set code place variable) code place variable
unset_unwritten code place known variable (inl none) =
    inl (record { none = λ s truth e. no_variable code s variable (values.Bool truth) none })
unset_unwritten code place known (variables.Slot slot) (inr may) = inr may
unset_unwritten code place known (variables.Port port block) (inr may) =
    elim (by_programs (in_programs code place) (is_some (type_of_input (shape_of code) block port)) may) [
      | inl programs ↦ inr programs
      | inr input ↦
          inl (record { none = λ s truth e. no_input code s port block (values.Bool truth) input })
    ]

pub set : (code : Listing) (place : ℕ) (met : Bool) (entry : Entry) (variable : Target) (cause : Cause)
    → IsTyped code entry → IsOfStep cause → ArisesAtWord code place met entry (words.Set variable) cause
    → IsWrong code place entry (words.Set variable) cause
set code place met entry variable causes.WrongType t s h =
    (set_by code place entry variable t (unset_wrong code entry.result variable h)).0
set code place met entry variable causes.NoResult t s h =
    (set_by code place entry variable t (unset_absent code entry.result variable h)).0
set code place met entry variable causes.BadSlot t s h = elim (unset_unwritten code place entry.result variable h) [
  | inl unset ↦ inl (set_by code place entry variable t unset).0
  | inr others ↦ inr others
]
set code place met entry variable causes.EmptyNesting t s h = absurd h
set code place met entry variable causes.OpenNesting t s h = absurd s
set code place met entry variable causes.MayBeZero t s h = absurd h
set code place met entry variable (causes.OutOfRange found allowed) t s h = absurd h
set code place met entry variable causes.TooBig t s h = absurd h
set code place met entry variable causes.BadJump t s h = absurd h
set code place met entry variable causes.TooManyRequests t s h = absurd s
set code place met entry variable causes.TooLong t s h = absurd s
set code place met entry variable causes.BadCall t s h = absurd s

pub reset : (code : Listing) (place : ℕ) (met : Bool) (entry : Entry) (variable : Target) (cause : Cause)
    → IsTyped code entry → IsOfStep cause → ArisesAtWord code place met entry (words.Reset variable) cause
    → IsWrong code place entry (words.Reset variable) cause
reset code place met entry variable causes.WrongType t s h =
    (set_by code place entry variable t (unset_wrong code entry.result variable h)).1
reset code place met entry variable causes.NoResult t s h =
    (set_by code place entry variable t (unset_absent code entry.result variable h)).1
reset code place met entry variable causes.BadSlot t s h = elim (unset_unwritten code place entry.result variable h) [
  | inl unset ↦ inl (set_by code place entry variable t unset).1
  | inr others ↦ inr others
]
reset code place met entry variable causes.EmptyNesting t s h = absurd h
reset code place met entry variable causes.OpenNesting t s h = absurd s
reset code place met entry variable causes.MayBeZero t s h = absurd h
reset code place met entry variable (causes.OutOfRange found allowed) t s h = absurd h
reset code place met entry variable causes.TooBig t s h = absurd h
reset code place met entry variable causes.BadJump t s h = absurd h
reset code place met entry variable causes.TooManyRequests t s h = absurd s
reset code place met entry variable causes.TooLong t s h = absurd s
reset code place met entry variable causes.BadCall t s h = absurd s

-- ---- PASS and GIVE, of an operand to what is given

-- the word stores the operand's value
abbrev IsGift : Listing → Word → WordOperand → Target → Type 0
IsGift code word operand variable =
    (c : Configuration)
    → effect code c word
    ≡ with_store c (option_and_then (stored_at code c.store variable) (value_of code c.store operand))

gift_by : (code : Listing) (place : ℕ) (entry : Entry) (word : Word) (operand : WordOperand) (variable : Target)
    (value : Option Value) → IsTyped code entry → IsGift code word operand variable
    → IsChoice value (known_of code entry operand)
    → ((s : Store) (given : Option Value) → AreAlike value given
    → option_and_then (stored_at code s variable) given ≡ None)
    → IsUndefined code place entry word
gift_by code place entry word operand variable value t g k h =
    let o = operand_of code entry operand (known_of code entry operand) value t refl k in
    let result = result_of entry.result in
    let c = stands code place o.store result (nesting_of entry.nesting) in
    undefined_with code place entry word o.store result o.is_chosen (result_known entry.result)
    (g c ∙ ap (λ (v : Option Value). with_store c (option_and_then (stored_at code o.store variable) v)) o.is
    ∙ ap (with_store c) (h o.store o.given o.alike))

gift_wrong : (code : Listing) (known : Option Known) (variable : Target) (s : Store) (given : Option Value)
    → IsWrongForStore false known (type_of_variable code variable) → AreAlike (result_of known) given
    → option_and_then (stored_at code s variable) given ≡ None
gift_wrong code None variable s None h a = refl
gift_wrong code None variable s (Some given) h a = absurd a
gift_wrong code (Some known) variable s None h a = absurd a
gift_wrong code (Some known) variable s (Some given) h a =
    wrong_store code s variable given
    (h given given (alike_kind (some_of known) given known a
    (kind_of_known (some_of known) known (some_known known))) refl)

gift_far : (code : Listing) (variable : Target) (number : ℤ) (s : Store) (given : Option Value)
    → ((t : IlType) → type_of_variable code variable ≡ Some t → ¬ IsOf (values.Int number) t)
    → AreAlike (Some (values.Int number)) given → option_and_then (stored_at code s variable) given ≡ None
gift_far code variable number s None h a = absurd a
gift_far code variable number s (Some (values.Bool b)) h a = absurd a
gift_far code variable number s (Some (values.Int n)) h a =
    subst (λ (z : ℤ). stored_at code s variable (values.Int z) ≡ None) a (far_store code s variable number h)

gift_never : (code : Listing) (place : ℕ) (entry : Entry) (word : Word) (operand : WordOperand) (variable : Target)
    → IsTyped code entry → IsGift code word operand variable
    → ((s : Store) (x : Value) → stored_at code s variable x ≡ None) → IsUndefined code place entry word
gift_never code place entry word operand variable t g h =
    gift_by code place entry word operand variable (result_of (known_of code entry operand)) t g
    (choice (known_of code entry operand))
    (λ s given a. through (stored_at code s variable) given (λ x e. h s x))

gift_missing : (code : Listing) (place : ℕ) (entry : Entry) (word : Word) (operand : WordOperand) (variable : Target)
    → IsTyped code entry → IsGift code word operand variable → IsNone (known_of code entry operand)
    → IsUndefined code place entry word
gift_missing code place entry word operand variable t g none =
    gift_by code place entry word operand variable None t g
    (subst (IsChoice None) (sym (none_of (known_of code entry operand) none)) tt)
    (λ s given a. absent code s variable given a)

gift_too_far : (code : Listing) (place : ℕ) (entry : Entry) (word : Word) (operand : WordOperand) (variable : Target)
    → IsTyped code entry → IsGift code word operand variable
    → IsTooFar (known_of code entry operand) (type_of_variable code variable) → IsUndefined code place entry word
gift_too_far code place entry word operand variable t g f =
    gift_by code place entry word operand variable (Some (values.Int f.number)) t g
    (subst (IsChoice (Some (values.Int f.number))) (sym f.is) f.holds)
    (λ s given a. gift_far code variable f.number s given f.out a)

pass_gift : (code : Listing) (port block : ℕ) (operand : WordOperand)
    → IsGift code (words.Pass port block operand) operand (variables.Port port block)
pass_gift code port block operand c = refl

give_gift : (code : Listing) (slot : ℕ) (operand : WordOperand)
    → IsGift code (words.Give operand slot) operand (variables.Slot slot)
give_gift code slot operand c = refl

pass_bad : (code : Listing) (place : ℕ) (entry : Entry) (port block : ℕ) (operand : WordOperand) → IsTyped code entry
    → IsNotNamed (known_of code entry operand) (may_name code place operand)
    ⊎ IsNotWritten (type_of_variable code (variables.Port port block))
    (may_write code place (variables.Port port block))
    → IsUndefined code place entry (words.Pass port block operand)
    ⊎ NamesOthers code place (words.Pass port block operand)
pass_bad code place entry port block operand t (inl (inl none)) =
    inl (gift_missing code place entry (words.Pass port block operand) operand (variables.Port port block) t
    (pass_gift code port block operand) none)
pass_bad code place entry port block operand t (inl (inr named)) = inr (inl named)
pass_bad code place entry port block operand t (inr (inl none)) =
    inl (gift_never code place entry (words.Pass port block operand) operand (variables.Port port block) t
    (pass_gift code port block operand) (λ s x. no_variable code s (variables.Port port block) x none))
pass_bad code place entry port block operand t (inr (inr may)) =
    elim (by_programs (in_programs code place) (is_some (type_of_input (shape_of code) block port)) may) [
      | inl programs ↦ inr (inr programs)
      | inr input ↦
          inl (gift_never code place entry (words.Pass port block operand) operand (variables.Port port block) t
          (pass_gift code port block operand) (λ s x. no_input code s port block x input))
    ]

give_bad : (code : Listing) (place : ℕ) (entry : Entry) (operand : WordOperand) (slot : ℕ) → IsTyped code entry
    → IsNotNamed (known_of code entry operand) (may_name code place operand)
    ⊎ IsNotWritten (type_of_variable code (variables.Slot slot)) (may_write code place (variables.Slot slot))
    → IsUndefined code place entry (words.Give operand slot) ⊎ NamesOthers code place (words.Give operand slot)
give_bad code place entry operand slot t (inl (inl none)) =
    inl (gift_missing code place entry (words.Give operand slot) operand (variables.Slot slot) t
    (give_gift code slot operand) none)
give_bad code place entry operand slot t (inl (inr named)) = inr (inl named)
give_bad code place entry operand slot t (inr (inl none)) =
    inl (gift_never code place entry (words.Give operand slot) operand (variables.Slot slot) t
    (give_gift code slot operand) (λ s x. no_variable code s (variables.Slot slot) x none))
give_bad code place entry operand slot t (inr (inr may)) = inr (inr may)

pub pass : (code : Listing) (place : ℕ) (met : Bool) (entry : Entry) (port block : ℕ) (operand : WordOperand)
    (cause : Cause)
    → IsTyped code entry → IsOfStep cause → ArisesAtWord code place met entry (words.Pass port block operand) cause
    → IsWrong code place entry (words.Pass port block operand) cause
pass code place met entry port block operand causes.WrongType t s h =
    let known = known_of code entry operand in
    gift_by code place entry (words.Pass port block operand) operand (variables.Port port block) (result_of known) t
    (pass_gift code port block operand) (choice known)
    (λ s given a. gift_wrong code known (variables.Port port block) s given h a)
pass code place met entry port block operand (causes.OutOfRange found allowed) t s h =
    gift_too_far code place entry (words.Pass port block operand) operand (variables.Port port block) t
    (pass_gift code port block operand)
    (out_of_slot (known_of code entry operand) (type_of_variable code (variables.Port port block)) found allowed h)
pass code place met entry port block operand causes.BadSlot t s h = pass_bad code place entry port block operand t h
pass code place met entry port block operand causes.NoResult t s h = absurd h
pass code place met entry port block operand causes.EmptyNesting t s h = absurd h
pass code place met entry port block operand causes.OpenNesting t s h = absurd s
pass code place met entry port block operand causes.MayBeZero t s h = absurd h
pass code place met entry port block operand causes.TooBig t s h = absurd h
pass code place met entry port block operand causes.BadJump t s h = absurd h
pass code place met entry port block operand causes.TooManyRequests t s h = absurd s
pass code place met entry port block operand causes.TooLong t s h = absurd s
pass code place met entry port block operand causes.BadCall t s h = absurd s

pub give : (code : Listing) (place : ℕ) (met : Bool) (entry : Entry) (operand : WordOperand) (slot : ℕ) (cause : Cause)
    → IsTyped code entry → IsOfStep cause → ArisesAtWord code place met entry (words.Give operand slot) cause
    → IsWrong code place entry (words.Give operand slot) cause
give code place met entry operand slot causes.WrongType t s h =
    let known = known_of code entry operand in
    gift_by code place entry (words.Give operand slot) operand (variables.Slot slot) (result_of known) t
    (give_gift code slot operand) (choice known)
    (λ s given a. gift_wrong code known (variables.Slot slot) s given h a)
give code place met entry operand slot (causes.OutOfRange found allowed) t s h =
    gift_too_far code place entry (words.Give operand slot) operand (variables.Slot slot) t
    (give_gift code slot operand)
    (out_of_slot (known_of code entry operand) (type_of_variable code (variables.Slot slot)) found allowed h)
give code place met entry operand slot causes.BadSlot t s h = give_bad code place entry operand slot t h
give code place met entry operand slot causes.NoResult t s h = absurd h
give code place met entry operand slot causes.EmptyNesting t s h = absurd h
give code place met entry operand slot causes.OpenNesting t s h = absurd s
give code place met entry operand slot causes.MayBeZero t s h = absurd h
give code place met entry operand slot causes.TooBig t s h = absurd h
give code place met entry operand slot causes.BadJump t s h = absurd h
give code place met entry operand slot causes.TooManyRequests t s h = absurd s
give code place met entry operand slot causes.TooLong t s h = absurd s
give code place met entry operand slot causes.BadCall t s h = absurd s
