-- What stands in the slots of a task, and that it is in the slots' types.
use Rattle.std.proofs.Common.{◌≡◌, ℕ, zero, suc, ◌-◌, ◌<◌, ◌≤◌, List, [], ◌∷◌, ◌++◌, map, drop, length}
use Rattle.std.proofs.Common.{get_or, false, Option, Some, None, refl, sym, ap, ◌∙◌, subst, arith}
use Rattle.std.specs.Prelude.{All, slice_get}
use Rattle.std.specs.Option.{option_map, option_and_then, IsSomeAnd}
use Rattle.std.proofs.lemmas.List.Elements.{All-nil, All-cons}
use Rattle.std.proofs.lemmas.Option.{slice_get_within, slice_get-map, get_or_from_slice_get}
use Rattle.iltypes.specs.declared.value.IlType.{IlType}
use Rattle.iltypes.specs.declared.value.Value.{Value}
use Rattle.iltypes.specs.declared.value.Value.TheVariants as values
use Rattle.iltypes.specs.Values.{IsOf, AreOf}
use Rattle.ilblocks.proofs.Blocks.{value_at}
use Rattle.ilverify.specs.Listings.{lasting_types}
use Rattle.ilverify.specs.Verdicts.{Accepted}
use Rattle.ilmachine.specs.declared.external.External.{External}
use Rattle.ilmachine.specs.Images.{TaskLayout, TaskImage, ProcessImage, layout_of, value_of, verified_of}
use Rattle.ilmachine.specs.Images.{variable_at, variable_in, AreTyped}
use Rattle.ilmachine.specs.ImageSteps.{global_value, slot_values, HasGlobals}

-- what holds of all items holds of the one at a place
pub at_all : {A : Type 0} (P : A → Type 0) (xs : List A) (place : ℕ) (x : A) → All P xs
    → slice_get xs place ≡ Some x → P x
at_all P xs place x h e = subst P (get_or_from_slice_get xs place x x e) (h place x (slice_get_within xs place x e))

-- an option that has a value of which something holds
pub record IsThere {A : Type 0} (o : Option A) (P : A → Type 0) : Type 0 where
  pub of : A
  pub is : o ≡ Some of
  pub holds : P of

pub there : {A : Type 0} (o : Option A) (P : A → Type 0) → IsSomeAnd o P → IsThere o P
there None P h = absurd h
there (Some x) P h = record { of = x; is = refl; holds = h }

-- what is said of the code of a task is said of the task that is there
of_task : (P : Accepted → Type 0) (o : Option TaskImage)
    → IsSomeAnd (option_map (λ (l : TaskLayout). l.verified) (option_map (λ (t : TaskImage). t.layout) o)) P
    → IsThere o (λ (t : TaskImage). P t.layout.verified)
of_task P None h = absurd h
of_task P (Some t) h = record { of = t; is = refl; holds = h }

pub with_task : (image : ProcessImage) (task : ℕ) (P : Accepted → Type 0)
    → IsSomeAnd (verified_of (layout_of image) task) P
    → IsThere (slice_get image.tasks task) (λ (t : TaskImage). P t.layout.verified)
with_task image task P h =
    of_task P (slice_get image.tasks task)
    (subst (λ (o : Option TaskLayout). IsSomeAnd (option_map (λ (l : TaskLayout). l.verified) o) P)
    (slice_get-map (λ (t : TaskImage). t.layout) image.tasks task) h)

-- what an index reads
pub item_read : {A : Type 0} (xs ys : List A) (place : ℕ) (x read : A) → xs ≡ ys → slice_get ys place ≡ Some x
    → read ≡ get_or xs place read → read ≡ x
item_read {A = A} xs ys place x read same e r =
    r ∙ get_or_from_slice_get xs place x read (ap (λ (zs : List A). slice_get zs place) same ∙ e)

-- each global variable of a task is there
pub typed_there : (types slots : List IlType) (externals : List External) → AreTyped types slots externals
    → All (λ (e : External). e.global < length types) externals
typed_there types slots [] h = All-nil (λ (e : External). e.global < length types)
typed_there types [] (e ∷ more) h = absurd h
typed_there types (slot ∷ slots) (e ∷ more) h =
    All-cons (λ (e : External). e.global < length types) e more (slice_get_within types e.global slot h.0)
    (typed_there types slots more h.1)

-- the slots' values are in their types
pub slots_typed : (types slots : List IlType) (globals : List Value) (externals : List External) (own : List Value)
    → AreTyped types slots externals → AreOf globals types → AreOf own (drop (length externals) slots)
    → AreOf (map (global_value globals) externals ++ own) slots
slots_typed types slots globals [] own t g o = o
slots_typed types [] globals (e ∷ more) own t g o = absurd t
slots_typed types (slot ∷ slots) globals (e ∷ more) own t g o =
    let v = value_at globals types e.global slot g t.0 in
    let q = get_or_from_slice_get globals e.global v.value (values.Bool false) v.is in
    (subst (λ (x : Value). IsOf x slot) (sym q) v.typed, slots_typed types slots globals more own t.1 g o)

pub dropped_typed : (vs : List Value) (slots : List IlType) (number : ℕ) → AreOf vs slots
    → AreOf (drop number vs) (drop number slots)
dropped_typed vs slots zero a = a
dropped_typed [] [] (suc number) a = tt
dropped_typed [] (slot ∷ slots) (suc number) a = absurd a
dropped_typed (v ∷ vs) [] (suc number) a = absurd a
dropped_typed (v ∷ vs) (slot ∷ slots) (suc number) a = dropped_typed vs slots number a.1

-- a task has a slot for each of its globals
pub externals_fit : (types slots : List IlType) (externals : List External) → AreTyped types slots externals
    → length externals ≤ length slots
externals_fit types slots [] h = omega arith
externals_fit types [] (e ∷ more) h = absurd h
externals_fit types (slot ∷ slots) (e ∷ more) h = let r = externals_fit types slots more h.1 in omega (arith, r)

-- ---- under which variable a slot's value stands

abbrev place_value : List Value → List Value → ℕ → Option External → Option Value
place_value globals own number (Some e) = slice_get globals e.global
place_value globals own number None = slice_get own number

slot_is : (types slots : List IlType) (globals own : List Value) (externals : List External) (slot : ℕ)
    → AreTyped types slots externals → AreOf globals types
    → slice_get (map (global_value globals) externals ++ own) slot
    ≡ place_value globals own (slot - length externals) (slice_get externals slot)
slot_is types slots globals own [] slot t g =
    let e : slot ≡ slot - 0 = omega arith in ap (slice_get own) e
slot_is types [] globals own (e ∷ more) slot t g = absurd t
slot_is types (type ∷ slots) globals own (e ∷ more) zero t g =
    let v = value_at globals types e.global type g t.0 in
    ap Some (get_or_from_slice_get globals e.global v.value (values.Bool false) v.is) ∙ sym v.is
slot_is types (type ∷ slots) globals own (e ∷ more) (suc slot) t g =
    let q : slot - length more ≡ suc slot - suc (length more) = omega arith in
    slot_is types slots globals own more slot t.1 g
    ∙ ap (λ (number : ℕ). place_value globals own number (slice_get more slot)) q

pub layout_at : (image : ProcessImage) (task : ℕ) (t : TaskImage) → slice_get image.tasks task ≡ Some t
    → slice_get (layout_of image).tasks task ≡ Some t.layout
layout_at image task t e =
    slice_get-map (λ (t : TaskImage). t.layout) image.tasks task ∙ ap (option_map (λ (t : TaskImage). t.layout)) e

variable_value : (image : ProcessImage) (task own : ℕ) (t : TaskImage) (o : Option External)
    → slice_get image.tasks task ≡ Some t
    → value_of image (variable_at task own o) ≡ place_value image.globals t.own.slots own o
variable_value image task own t None e = ap (option_and_then (λ (t : TaskImage). slice_get t.own.slots own)) e
variable_value image task own t (Some x) e = refl

-- each slot has the value of its variable
pub slot_value : (image : ProcessImage) (task slot : ℕ) (t : TaskImage) → slice_get image.tasks task ≡ Some t
    → HasGlobals t.layout image.globals
    → slice_get (slot_values image.globals t) slot
    ≡ option_and_then (value_of image) (variable_in (layout_of image) task slot)
slot_value image task slot t e h =
    let externals = t.layout.externals in
    let number = slot - length externals in
    let o = slice_get externals slot in
    let in_slot : variable_in (layout_of image) task slot ≡ Some (variable_at task number o) =
    ap (option_map (λ (l : TaskLayout). variable_at task (slot - length l.externals) (slice_get l.externals slot)))
    (layout_at image task t e) in
    slot_is h.types (lasting_types t.layout.verified.code) image.globals t.own.slots externals slot h.typed h.values
    ∙ sym (variable_value image task number t o e) ∙ ap (option_and_then (value_of image)) (sym in_slot)
