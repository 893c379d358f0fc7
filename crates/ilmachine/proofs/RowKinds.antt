-- Values in their types are of the types' kinds, so rows of one code have one layout.
use Rattle.std.proofs.Common.{◌≡◌, ℕ, zero, suc, Bool, List, [], ◌∷◌, ◌++◌, take, drop, Option, Some, None, refl}
use Rattle.std.proofs.Common.{sym, ap, ◌∙◌, subst}
use Rattle.std.specs.Prelude.{slice_get, slice_set}
use Rattle.std.specs.Option.{IsSomeAnd}
use Rattle.iltypes.specs.declared.value.IlType.{IlType}
use Rattle.iltypes.specs.declared.value.IlType.TheVariants as types
use Rattle.iltypes.specs.declared.value.Value.{Value}
use Rattle.iltypes.specs.declared.value.Value.TheVariants as values
use Rattle.iltypes.specs.Values.{IsOf, AreOf}
use Rattle.ilblocks.proofs.Blocks.{set_typed, value_at}
use Rattle.ilcells.specs.Cells.{is_number_of}
use Rattle.ilcells.specs.Banks.{is_number_type, kinds_of, kinds_of_types}
use Rattle.ilmachine.specs.Snapshots.{MayHave}
use Rattle.ilmachine.specs.RowSteps.{MaySet}
use Rattle.ilmachine.proofs.ImagePlaces.{there}

pub here : {A : Type 0} (o : Option A) (P : A → Type 0) (x : A) → o ≡ Some x → P x → IsSomeAnd o P
here None P x e h = absurd (cc)
here (Some y) P x e h = let q : x ≡ y = cc in subst P q h

pub kind_is : (v : Value) (t : IlType) → IsOf v t → is_number_of v ≡ is_number_type t
kind_is (values.Bool b) types.Bool h = refl
kind_is (values.Bool b) (types.Int r) h = absurd h
kind_is (values.Int n) types.Bool h = absurd h
kind_is (values.Int n) (types.Int r) h = refl

pub kinds_are : (vs : List Value) (ts : List IlType) → AreOf vs ts → kinds_of vs ≡ kinds_of_types ts
kinds_are [] [] a = refl
kinds_are [] (t ∷ ts) a = absurd a
kinds_are (v ∷ vs) [] a = absurd a
kinds_are (v ∷ vs) (t ∷ ts) a =
    ap (λ (k : Bool). k ∷ kinds_of vs) (kind_is v t a.0)
    ∙ ap (λ (ks : List Bool). is_number_type t ∷ ks) (kinds_are vs ts a.1)

pub same_kinds : (vs ws : List Value) (ts : List IlType) → AreOf vs ts → AreOf ws ts → kinds_of vs ≡ kinds_of ws
same_kinds vs ws ts a b = kinds_are vs ts a ∙ sym (kinds_are ws ts b)

-- a value of a slot's type is of the kind of the one that is there
pub may_set : (row : List Value) (slots : List IlType) (slot : ℕ) (value : Value) → AreOf row slots
    → MayHave slots slot value → MaySet row slot value
may_set row slots slot value a h =
    let t = there (slice_get slots slot) (IsOf value) h in
    let v = value_at row slots slot t.of a t.is in
    here (slice_get row slot) (λ (was : Value). is_number_of was ≡ is_number_of value) v.value v.is
    (kind_is v.value t.of v.typed ∙ sym (kind_is value t.of t.holds))

pub set_slot : (row : List Value) (slots : List IlType) (slot : ℕ) (value : Value) → AreOf row slots
    → MayHave slots slot value → AreOf (slice_set row slot value) slots
set_slot row slots slot value a h =
    let t = there (slice_get slots slot) (IsOf value) h in set_typed row slots slot value t.of a t.is t.holds

pub joined_typed : (n : ℕ) (vs ws : List Value) (ts : List IlType) → AreOf vs ts → AreOf ws ts
    → AreOf (take n vs ++ drop n ws) ts
joined_typed zero vs ws ts a b = b
joined_typed (suc n) [] [] [] a b = tt
joined_typed (suc n) [] [] (t ∷ ts) a b = absurd a
joined_typed (suc n) [] (w ∷ ws) [] a b = absurd b
joined_typed (suc n) [] (w ∷ ws) (t ∷ ts) a b = absurd a
joined_typed (suc n) (v ∷ vs) [] [] a b = absurd a
joined_typed (suc n) (v ∷ vs) [] (t ∷ ts) a b = absurd b
joined_typed (suc n) (v ∷ vs) (w ∷ ws) [] a b = absurd a
joined_typed (suc n) (v ∷ vs) (w ∷ ws) (t ∷ ts) a b = (a.0, joined_typed n vs ws ts a.1 b.1)
