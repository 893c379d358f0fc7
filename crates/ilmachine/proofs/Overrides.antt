-- What a snapshot has under overrides.
use Rattle.std.proofs.Common.{◌≡◌, ℕ, ◌==◌, List, [], ◌∷◌, Bool, true, false, cond}
use Rattle.std.proofs.Common.{Option, Some, None, refl, sym, ap, ◌∙◌}
use Rattle.std.specs.Prelude.{All, slice_get, slice_set}
use Rattle.std.specs.Option.{option_and_then}
use Rattle.std.proofs.lemmas.Bool.{eqb-true, eqb-false}
use Rattle.std.proofs.lemmas.List.Elements.{All-head, All-tail}
use Rattle.iltypes.specs.declared.value.IlType.{IlType}
use Rattle.iltypes.specs.declared.value.Value.{Value}
use Rattle.iltypes.specs.Values.{IsOf, AreOf}
use Rattle.ilblocks.proofs.Blocks.{set_typed, value_at}
use Rattle.ilmachine.specs.declared.overriding.Override.{Override}
use Rattle.ilmachine.specs.Images.{TaskImage, ProcessImage, ImageVariable, Global, Own, image_of, layout_of, value_of}
use Rattle.ilmachine.specs.Images.{overridden, value_under, variable_in}
use Rattle.ilmachine.specs.ImageSteps.{globals_under, slot_values, HasGlobals}
use Rattle.ilmachine.specs.Snapshots.{MayHave}
use Rattle.ilmachine.proofs.ImagePlaces.{there, slot_value}
use Rattle.ilmachine.proofs.Commits.{get_set_same, get_set_other}

-- overrides of values in their types
abbrev pub Allows : List IlType → Override → Type 0
Allows types o = MayHave types o.global o.value

abbrev pub AreAllowed : List IlType → List Override → Type 0
AreAllowed types overrides = All (Allows types) overrides

-- ---- the values under overrides

pub under_typed : (types : List IlType) (overrides : List Override) (globals : List Value)
    → AreAllowed types overrides → AreOf globals types → AreOf (globals_under overrides globals) types
under_typed types [] globals h g = g
under_typed types (o ∷ more) globals h g =
    let t = there (slice_get types o.global) (IsOf o.value) (All-head (Allows types) o more h) in
    under_typed types more (slice_set globals o.global o.value) (All-tail (Allows types) o more h)
    (set_typed globals types o.global o.value t.of g t.is t.holds)

-- one override
one_by : (globals : List Value) (o : Override) (number : ℕ) (old : Value) (same : Bool)
    → (o.global == number) ≡ same → slice_get globals o.global ≡ Some old
    → slice_get (slice_set globals o.global o.value) number ≡ cond same (Some o.value) (slice_get globals number)
one_by globals o number old true e is =
    ap (slice_get (slice_set globals o.global o.value)) (sym (eqb-true o.global number e))
    ∙ get_set_same globals o.global o.value old is
one_by globals o number old false e is = get_set_other globals o.global number o.value (eqb-false o.global number e)

pub global_under : (types : List IlType) (overrides : List Override) (globals : List Value) (number : ℕ)
    → AreAllowed types overrides → AreOf globals types
    → slice_get (globals_under overrides globals) number ≡ overridden overrides number (slice_get globals number)
global_under types [] globals number h g = refl
global_under types (o ∷ more) globals number h g =
    let t = there (slice_get types o.global) (IsOf o.value) (All-head (Allows types) o more h) in
    let old = value_at globals types o.global t.of g t.is in
    let after = slice_set globals o.global o.value in
    let typed = set_typed globals types o.global o.value t.of g t.is t.holds in
    global_under types more after number (All-tail (Allows types) o more h) typed
    ∙ ap (overridden more number) (one_by globals o number old.value (o.global == number) refl old.is)

-- the image with the globals that overrides give
abbrev pub image_under : List Override → ProcessImage → ProcessImage
image_under overrides image = image_of image.types (globals_under overrides image.globals) image.tasks

variable_under : (overrides : List Override) (image : ProcessImage) (o : Option ImageVariable)
    → AreAllowed image.types overrides → AreOf image.globals image.types
    → option_and_then (value_of (image_under overrides image)) o
    ≡ option_and_then (value_under overrides image) o
variable_under overrides image None h g = refl
variable_under overrides image (Some (Global number)) h g =
    global_under image.types overrides image.globals number h g
variable_under overrides image (Some (Own task number)) h g = refl

-- each slot has the value of its variable under the overrides
pub slot_under : (overrides : List Override) (image : ProcessImage) (task slot : ℕ) (t : TaskImage)
    → slice_get image.tasks task ≡ Some t → AreAllowed image.types overrides → AreOf image.globals image.types
    → HasGlobals t.layout (globals_under overrides image.globals)
    → slice_get (slot_values (globals_under overrides image.globals) t) slot
    ≡ option_and_then (value_under overrides image) (variable_in (layout_of image) task slot)
slot_under overrides image task slot t e h g has =
    slot_value (image_under overrides image) task slot t e has
    ∙ variable_under overrides image (variable_in (layout_of image) task slot) h g
