-- What a scan of a task leaves of the image.
use Rattle.std.proofs.Common.{◌≡◌, ◌≢◌, ℕ, zero, suc, ◌+◌, ◌-◌, ◌<◌, ◌≤◌, List, [], ◌∷◌, map, drop, length, Bool}
use Rattle.std.proofs.Common.{true, false, cond, Option, Some, None, refl, sym, ap, ◌∙◌, subst, inl, inr, arith}
use Rattle.std.specs.Prelude.{All, slice_get, slice_set}
use Rattle.std.specs.Option.{option_map, option_and_then}
use Rattle.std.proofs.lemmas.Bool.{cases_eq}
use Rattle.std.proofs.lemmas.Option.{slice_get_past, cond_some}
use Rattle.iltypes.specs.declared.value.IlType.{IlType}
use Rattle.iltypes.specs.declared.value.Value.{Value}
use Rattle.iltypes.specs.Values.{IsOf, AreOf}
use Rattle.ilblocks.specs.Calls.{Block}
use Rattle.ilblocks.proofs.Blocks.{set_typed, value_at}
use Rattle.ilverify.specs.Listings.{lasting_types}
use Rattle.ilmachine.specs.declared.external.External.{External}
use Rattle.ilmachine.specs.Images.{first_task}
use Rattle.ilmachine.specs.Images.{TaskLayout, TaskImage, ProcessImage, ImageVariable, Global, Own, image_of, layout_of}
use Rattle.ilmachine.specs.Images.{value_of, blocks_of, written_at, written_in, AreTyped, AreApart}
use Rattle.ilmachine.specs.Images.{IsLawful, IsLawfulTask, IsImage}
use Rattle.ilmachine.specs.ImageSteps.{stored_globals}
use Rattle.ilmachine.proofs.ImagePlaces.{at_all, layout_at, typed_there}

-- ---- an item that is set

pub get_set_other : {A : Type 0} (xs : List A) (place other : ℕ) (x : A) → place ≢ other
    → slice_get (slice_set xs place x) other ≡ slice_get xs other
get_set_other [] place other x h = refl
get_set_other (y ∷ xs) zero zero x h = absurd (h refl)
get_set_other (y ∷ xs) zero (suc other) x h = refl
get_set_other (y ∷ xs) (suc place) zero x h = refl
get_set_other (y ∷ xs) (suc place) (suc other) x h = get_set_other xs place other x (λ q. h (ap suc q))

pub get_set_same : {A : Type 0} (xs : List A) (place : ℕ) (x y : A) → slice_get xs place ≡ Some y
    → slice_get (slice_set xs place x) place ≡ Some x
get_set_same [] place x y e = absurd (cc)
get_set_same (z ∷ xs) zero x y e = refl
get_set_same (z ∷ xs) (suc place) x y e = get_set_same xs place x y e

pub get_drop : {A : Type 0} (xs : List A) (number place : ℕ)
    → slice_get (drop number xs) place ≡ slice_get xs (number + place)
get_drop xs zero place = let q : place ≡ 0 + place = omega arith in ap (slice_get xs) q
get_drop [] (suc number) place = refl
get_drop (x ∷ xs) (suc number) place =
    let q : suc (number + place) ≡ suc number + place = omega arith in
    get_drop xs number place ∙ ap (slice_get (x ∷ xs)) q

-- ---- the globals after a scan

abbrev pub one_stored : External → Value → List Value → Bool → List Value
one_stored e v globals stored = cond stored (slice_set globals e.global v) globals

one_typed : (types : List IlType) (e : External) (v : Value) (globals : List Value) (type : IlType) (stored : Bool)
    → slice_get types e.global ≡ Some type → IsOf v type → AreOf globals types
    → AreOf (one_stored e v globals stored) types
one_typed types e v globals type true t o g = set_typed globals types e.global v type g t o
one_typed types e v globals type false t o g = g

pub stored_typed : (types slots : List IlType) (externals : List External) (vs globals : List Value)
    → AreTyped types slots externals → AreOf vs slots → AreOf globals types
    → AreOf (stored_globals externals vs globals) types
stored_typed types slots [] vs globals t a g = g
stored_typed types slots (e ∷ more) [] globals t a g = g
stored_typed types [] (e ∷ more) (v ∷ others) globals t a g = absurd t
stored_typed types (slot ∷ slots) (e ∷ more) (v ∷ others) globals t a g =
    stored_typed types slots more others (one_stored e v globals e.stored) t.1 a.1
    (one_typed types e v globals slot e.stored t.0 a.0 g)

one_kept : (e : External) (v : Value) (globals : List Value) (number : ℕ) (stored : Bool) → e.stored ≡ stored
    → (e.stored ≡ true → e.global ≢ number)
    → slice_get (one_stored e v globals stored) number ≡ slice_get globals number
one_kept e v globals number true s h = get_set_other globals e.global number v (h s)
one_kept e v globals number false s h = refl

-- a global that is not stored keeps its value
pub kept_global : (externals : List External) (vs globals : List Value) (number : ℕ)
    → ((slot : ℕ) (e : External) → slice_get externals slot ≡ Some e → e.stored ≡ true → e.global ≢ number)
    → slice_get (stored_globals externals vs globals) number ≡ slice_get globals number
kept_global [] vs globals number h = refl
kept_global (e ∷ more) [] globals number h = refl
kept_global (e ∷ more) (v ∷ others) globals number h =
    kept_global more others (one_stored e v globals e.stored) number (λ slot x p s. h (suc slot) x p s)
    ∙ one_kept e v globals number e.stored refl (λ s. h 0 e refl s)

one_written : (types : List IlType) (e : External) (v : Value) (globals : List Value) (type : IlType) (stored : Bool)
    → stored ≡ true → slice_get types e.global ≡ Some type → AreOf globals types
    → slice_get (one_stored e v globals stored) e.global ≡ Some v
one_written types e v globals type true s t g =
    let old = value_at globals types e.global type g t in get_set_same globals e.global v old.value old.is
one_written types e v globals type false s t g = absurd (cc)

-- one that is stored has the value of its slot
pub written_global : (types slots : List IlType) (externals : List External) (vs globals : List Value) (slot : ℕ)
    (e : External) → AreTyped types slots externals → AreApart externals → AreOf vs slots → AreOf globals types
    → slice_get externals slot ≡ Some e → e.stored ≡ true
    → slice_get (stored_globals externals vs globals) e.global ≡ slice_get vs slot
written_global types slots [] vs globals slot e t apart a g is s = absurd (cc)
written_global types [] (x ∷ more) vs globals slot e t apart a g is s = absurd t
written_global types (type ∷ slots) (x ∷ more) [] globals slot e t apart a g is s = absurd a
written_global types (type ∷ slots) (x ∷ more) (v ∷ others) globals zero e t apart a g is s =
    let q : x ≡ e = cc in
    let st : x.stored ≡ true = ap (λ (y : External). y.stored) q ∙ s in
    let n : x.global ≡ e.global = ap (λ (y : External). y.global) q in
    let after = one_stored x v globals x.stored in
    ap (slice_get (stored_globals more others after)) (sym n)
    ∙ kept_global more others after x.global
    (λ place y p _. at_all (λ (other : External). other.global ≢ x.global) more place y apart.0 p)
    ∙ one_written types x v globals type x.stored st t.0 g
written_global types (type ∷ slots) (x ∷ more) (v ∷ others) globals (suc slot) e t apart a g is s =
    written_global types slots more others (one_stored x v globals x.stored) slot e t.1 apart.1 a.1
    (one_typed types x v globals type x.stored t.0 a.0 g) is s

-- ---- the image after a scan

abbrev pub left : TaskImage → List Value → List Block → TaskImage
left t vs blocks = first_task t.layout.verified t.layout.externals (drop (length t.layout.externals) vs) blocks

abbrev pub committed : ProcessImage → ℕ → TaskImage → List Value → List Block → ProcessImage
committed image task t vs blocks =
    image_of image.types (stored_globals t.layout.externals vs image.globals)
    (slice_set image.tasks task (left t vs blocks))

-- a task of the image in which a scan was made that left these values
pub record IsScanned (image : ProcessImage) (task : ℕ) (t : TaskImage) (vs : List Value) : Type 0 where
  pub whole : IsImage image
  pub is : slice_get image.tasks task ≡ Some t
  pub typed : AreOf vs (lasting_types t.layout.verified.code)

same_layouts : (ts : List TaskImage) (task : ℕ) (t u : TaskImage) → slice_get ts task ≡ Some t → u.layout ≡ t.layout
    → map (λ (t : TaskImage). t.layout) (slice_set ts task u) ≡ map (λ (t : TaskImage). t.layout) ts
same_layouts [] task t u e l = refl
same_layouts (x ∷ ts) zero t u e l =
    let q : x ≡ t = cc in
    ap (λ (y : TaskLayout). y ∷ map (λ (t : TaskImage). t.layout) ts) (l ∙ ap (λ (t : TaskImage). t.layout) (sym q))
same_layouts (x ∷ ts) (suc task) t u e l = ap (λ (ls : List TaskLayout). x.layout ∷ ls) (same_layouts ts task t u e l)

pub layout_stays : (image : ProcessImage) (task : ℕ) (t : TaskImage) (vs : List Value) (blocks : List Block)
    → slice_get image.tasks task ≡ Some t → layout_of (committed image task t vs blocks) ≡ layout_of image
layout_stays image task t vs blocks e =
    ap (λ (ls : List TaskLayout). record { types = image.types; tasks = ls })
    (same_layouts image.tasks task t (left t vs blocks) e refl)

pub lawful_task : (image : ProcessImage) (task : ℕ) (t : TaskImage) → IsImage image
    → slice_get image.tasks task ≡ Some t → IsLawfulTask image.types t.layout
lawful_task image task t i e =
    at_all (IsLawfulTask image.types) (layout_of image).tasks task t.layout i.lawful.tasks (layout_at image task t e)

-- each global variable that a task names is there
pub named_there : (image : ProcessImage) (task : ℕ) (t : TaskImage) → IsImage image
    → slice_get image.tasks task ≡ Some t
    → All (λ (e : External). e.global < length image.types) t.layout.externals
named_there image task t i e =
    typed_there image.types (lasting_types t.layout.verified.code) t.layout.externals
    (lawful_task image task t i e).typed

pub image_stays : (image : ProcessImage) (task : ℕ) (t : TaskImage) (vs : List Value) (blocks : List Block)
    → IsScanned image task t vs → IsImage (committed image task t vs blocks)
image_stays image task t vs blocks h =
    let lawful = lawful_task image task t h.whole h.is in
    record {
      lawful = subst IsLawful (sym (layout_stays image task t vs blocks h.is)) h.whole.lawful;
      globals = stored_typed image.types (lasting_types t.layout.verified.code) t.layout.externals vs image.globals
          lawful.typed h.typed h.whole.globals;
    }

-- what a scan writes from a slot
written_is : (image : ProcessImage) (task slot : ℕ) (t : TaskImage) → slice_get image.tasks task ≡ Some t
    → written_in (layout_of image) task slot
    ≡ written_at task (slot - length t.layout.externals) (slice_get t.layout.externals slot)
written_is image task slot t e =
    ap (option_and_then (λ (l : TaskLayout). written_at task (slot - length l.externals) (slice_get l.externals slot)))
    (layout_at image task t e)

own_value : (image : ProcessImage) (task number : ℕ) (t : TaskImage) (vs : List Value) (blocks : List Block)
    → slice_get image.tasks task ≡ Some t
    → value_of (committed image task t vs blocks) (Own task number)
    ≡ slice_get vs (length t.layout.externals + number)
own_value image task number t vs blocks e =
    ap (option_and_then (λ (u : TaskImage). slice_get u.own.slots number))
    (get_set_same image.tasks task (left t vs blocks) t e)
    ∙ get_drop vs (length t.layout.externals) number

pub past_end : {A : Type 0} (xs : List A) (place : ℕ) → slice_get xs place ≡ None → length xs ≤ place
past_end [] place e = omega arith
past_end (x ∷ xs) zero e = absurd (cc)
past_end (x ∷ xs) (suc place) e = let h = past_end xs place e in omega (arith, h)

by_external : (image : ProcessImage) (task slot : ℕ) (t : TaskImage) (vs : List Value) (blocks : List Block)
    (variable : ImageVariable) (o : Option External) → IsScanned image task t vs → slice_get t.layout.externals slot ≡ o
    → written_at task (slot - length t.layout.externals) o ≡ Some variable
    → value_of (committed image task t vs blocks) variable ≡ slice_get vs slot
by_external image task slot t vs blocks variable None h e w =
    let q : Own task (slot - length t.layout.externals) ≡ variable = cc in
    let le = past_end t.layout.externals slot e in
    let n : length t.layout.externals + (slot - length t.layout.externals) ≡ slot = omega (arith, le) in
    ap (value_of (committed image task t vs blocks)) (sym q)
    ∙ own_value image task (slot - length t.layout.externals) t vs blocks h.is ∙ ap (slice_get vs) n
by_external image task slot t vs blocks variable (Some x) h e w =
    let c = cond_some x.stored (Global x.global) variable w in
    let lawful = lawful_task image task t h.whole h.is in
    ap (value_of (committed image task t vs blocks)) (sym c.1)
    ∙ written_global image.types (lasting_types t.layout.verified.code) t.layout.externals vs image.globals slot x
    lawful.typed lawful.apart h.typed h.whole.globals e c.0

pub written : (image : ProcessImage) (task slot : ℕ) (t : TaskImage) (vs : List Value) (blocks : List Block)
    (variable : ImageVariable) → IsScanned image task t vs → written_in (layout_of image) task slot ≡ Some variable
    → value_of (committed image task t vs blocks) variable ≡ slice_get vs slot
written image task slot t vs blocks variable h w =
    by_external image task slot t vs blocks variable (slice_get t.layout.externals slot) h refl
    (sym (written_is image task slot t h.is) ∙ w)

-- ---- what a scan does not write

pub kept : (image : ProcessImage) (task : ℕ) (t : TaskImage) (vs : List Value) (blocks : List Block)
    (variable : ImageVariable) → slice_get image.tasks task ≡ Some t
    → ((slot : ℕ) → written_in (layout_of image) task slot ≢ Some variable)
    → value_of (committed image task t vs blocks) variable ≡ value_of image variable
kept image task t vs blocks (Global number) e h =
    kept_global t.layout.externals vs image.globals number
    (λ slot x p s q.
    let stored : written_at task (slot - length t.layout.externals) (Some x) ≡ Some (Global x.global) =
    ap (λ (b : Bool). cond b (Some (Global x.global)) None) s in
    h slot
    (written_is image task slot t e ∙ ap (written_at task (slot - length t.layout.externals)) p ∙ stored
    ∙ ap (λ (n : ℕ). Some (Global n)) q))
kept image task t vs blocks (Own other number) e h =
    elim (cases_eq task other) [
      | inl same ↦
          let n = length t.layout.externals in
          let past : n ≤ n + number = omega arith in
          let none = slice_get_past t.layout.externals (n + number) past in
          let back : (n + number) - n ≡ number = omega arith in
          absurd (h (n + number)
          (written_is image task (n + number) t e ∙ ap (written_at task ((n + number) - n)) none
          ∙ ap (λ (m : ℕ). Some (Own task m)) back ∙ ap (λ (u : ℕ). Some (Own u number)) same))
      | inr other_task ↦
          ap (option_and_then (λ (u : TaskImage). slice_get u.own.slots number))
          (get_set_other image.tasks task other (left t vs blocks) other_task)
    ]

pub blocks_are : (image : ProcessImage) (task : ℕ) (t : TaskImage) (vs : List Value) (blocks : List Block)
    → slice_get image.tasks task ≡ Some t → blocks_of (committed image task t vs blocks) task ≡ Some blocks
blocks_are image task t vs blocks e =
    ap (option_map (λ (u : TaskImage). u.own.blocks)) (get_set_same image.tasks task (left t vs blocks) t e)

pub other_blocks : (image : ProcessImage) (task other : ℕ) (t : TaskImage) (vs : List Value) (blocks : List Block)
    → other ≢ task → blocks_of (committed image task t vs blocks) other ≡ blocks_of image other
other_blocks image task other t vs blocks h =
    ap (option_map (λ (u : TaskImage). u.own.blocks))
    (get_set_other image.tasks task other (left t vs blocks) (λ q. h (sym q)))

-- ---- a global that is set

pub set_kept : (types : List IlType) (globals : List Value) (tasks : List TaskImage) (global : ℕ) (value : Value)
    (variable : ImageVariable) → variable ≢ Global global
    → value_of (image_of types (slice_set globals global value) tasks) variable
    ≡ value_of (image_of types globals tasks) variable
set_kept types globals tasks global value (Global number) n =
    get_set_other globals global number value (λ q. n (ap Global (sym q)))
set_kept types globals tasks global value (Own task number) n = refl
