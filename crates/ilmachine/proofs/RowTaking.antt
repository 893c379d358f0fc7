-- What is taken of rows: a ready row has under each slot the value of its variable, under overrides too.
use Rattle.std.proofs.Common.{◌≡◌, ℕ, ◌<◌, List, ◌++◌, map, drop, length, get_or, Some, refl, sym, ap, ◌∙◌, subst}
use Rattle.std.proofs.Common.{arith}
use Rattle.std.specs.Prelude.{All, slice_get, option_map}
use Rattle.std.specs.Option.{option_and_then}
use Rattle.std.proofs.lemmas.List.{length-map}
use Rattle.std.proofs.lemmas.Option.{slice_get_within, slice_get-map}
use Rattle.iltypes.specs.declared.value.IlType.{IlType}
use Rattle.iltypes.specs.declared.value.Value.{Value}
use Rattle.iltypes.specs.Values.{IsOf, AreOf}
use Rattle.ilblocks.proofs.Blocks.{as_long}
use Rattle.ilverify.specs.Listings.{lasting_types}
use Rattle.ilmachine.specs.declared.overriding.Override.{Override}
use Rattle.ilmachine.specs.declared.slots.TaskSlot.{TaskSlot}
use Rattle.ilmachine.specs.Images.{TaskLayout, TaskImage, ProcessImage, layout_of, value_of, verified_of, blocks_of}
use Rattle.ilmachine.specs.Images.{variable_in, value_under, IsTaskImage}
use Rattle.ilmachine.specs.ImageSteps.{global_value, globals_under, HasGlobals}
use Rattle.ilmachine.specs.Snapshots.{MayHave}
use Rattle.ilmachine.specs.TaskRows.{TaskRow, shown, shown_image, IsTaskRow}
use Rattle.ilmachine.specs.RowSteps.{IsIndex, IsKept, MaySet, MaySlotHave, layouts_of, row_under, slots_at}
use Rattle.ilmachine.proofs.ImagePlaces.{there, layout_at, slots_typed, dropped_typed}
use Rattle.ilmachine.proofs.Overrides.{AreAllowed, under_typed, slot_under}
use Rattle.ilmachine.proofs.RowKinds.{may_set}
use Rattle.ilmachine.proofs.RowSlots.{read_there}
use Rattle.ilmachine.proofs.RowReady.{AreIn, slots_of, slots_in, each_may_have, task_at, lawful_row, row_is}
use Rattle.ilmachine.proofs.RowOverrides.{AreKnown, under_ready}
use Rattle.ilmachine.proofs.RowCommits.{may_give}

-- the task that an index reads from the fields
pub row_read : (types : List IlType) (globals : List Value) (tasks : List TaskRow) (image : ProcessImage) (task : ℕ)
    (read : TaskRow) → shown_image types globals tasks ≡ image → task < length image.tasks
    → read ≡ get_or tasks task read → slice_get tasks task ≡ Some read
row_read types globals tasks image task read view h r =
    let n = ap (λ (i : ProcessImage). length i.tasks) view in
    let m = length-map tasks shown in
    read_there tasks task read (omega arith) r

pub task_shown : (types : List IlType) (globals : List Value) (tasks : List TaskRow) (image : ProcessImage) (task : ℕ)
    (t : TaskRow) → shown_image types globals tasks ≡ image → slice_get tasks task ≡ Some t
    → slice_get image.tasks task ≡ Some (shown t)
task_shown types globals tasks image task t view e =
    ap (λ (i : ProcessImage). slice_get i.tasks task) (sym view) ∙ task_at tasks task t e

-- what is read in its own types is so in the image
pub shown_typed : (t : TaskRow) → IsTaskRow t → IsTaskImage (shown t)
shown_typed t h =
    record {
      values = dropped_typed t.row (lasting_types t.layout.verified.code) (length t.layout.externals) h.values;
      blocks = h.blocks;
    }

pub record IsTaken (image : ProcessImage) (task : ℕ) (t : TaskRow) : Type 0 where
  pub is : slice_get image.tasks task ≡ Some (shown t)
  pub verified : verified_of (layout_of image) task ≡ Some t.layout.verified
  pub blocks : blocks_of image task ≡ Some t.blocks
  pub values : (slot : ℕ) → slice_get t.row slot
      ≡ option_and_then (value_of image) (variable_in (layout_of image) task slot)

pub taken : (types : List IlType) (globals : List Value) (tasks : List TaskRow) (index : List (List TaskSlot))
    (image : ProcessImage) (task : ℕ) (t : TaskRow) → IsKept types globals tasks index
    → shown_image types globals tasks ≡ image → slice_get tasks task ≡ Some t → IsTaken image task t
taken types globals tasks index image task t kept view e =
    let is = task_shown types globals tasks image task t view e in
    record {
      is = is;
      verified = ap (option_map (λ (l : TaskLayout). l.verified)) (layout_at image task (shown t) is);
      blocks = ap (option_map (λ (u : TaskImage). u.own.blocks)) is;
      values = row_is types globals tasks index image task t kept view e;
    }

-- ---- under overrides

known_by : (types : List IlType) (overrides : List Override) (count : ℕ) → length types ≡ count
    → AreAllowed types overrides → AreKnown overrides count
known_by types overrides count long h k d lt =
    let o = get_or overrides k d in
    let t = there (slice_get types o.global) (IsOf o.value) (h k d lt) in
    let w = slice_get_within types o.global t.of t.is in
    omega arith

pub are_known : (types : List IlType) (globals : List Value) (tasks : List TaskRow) (index : List (List TaskSlot))
    (overrides : List Override) → IsKept types globals tasks index → AreAllowed types overrides
    → AreKnown overrides (length index)
are_known types globals tasks index overrides kept h =
    let n = as_long globals types kept.image.globals in
    let m = kept.each in
    known_by types overrides (length index) (omega arith) h

all_in : (tasks : List TaskRow) (index : List (List TaskSlot)) (task : ℕ) (t : TaskRow)
    → IsIndex (layouts_of tasks) index → slice_get tasks task ≡ Some t → (global : ℕ)
    → AreIn (slots_at index global) task global t.layout.externals
all_in tasks index task t i e global slot =
    slots_in tasks (slots_at index global) global task slot t
    (slots_of (layouts_of tasks) index (slots_at index global) global i refl) e

may_here : (layouts : List TaskLayout) (task other slot : ℕ) (value : Value) (t : TaskLayout)
    → slice_get layouts task ≡ Some t → other ≡ task → MaySlotHave layouts value other slot
    → MayHave (lasting_types t.verified.code) slot value
may_here layouts task other slot value t e same h =
    let f = there (slice_get layouts other)
    (λ (u : TaskLayout). MayHave (lasting_types u.verified.code) slot value) h in
    let g : slice_get layouts other ≡ Some t = ap (slice_get layouts) same ∙ e in
    let q : f.of ≡ t = let i = f.is in cc in
    subst (λ (u : TaskLayout). MayHave (lasting_types u.verified.code) slot value) q f.holds

-- each override is of the kind of the slots that it names
pub overrides_fit : (types : List IlType) (globals : List Value) (tasks : List TaskRow) (index : List (List TaskSlot))
    (task : ℕ) (t : TaskRow) (overrides : List Override) (row : List Value) → IsKept types globals tasks index
    → slice_get tasks task ≡ Some t → AreAllowed types overrides → AreOf row (lasting_types t.layout.verified.code)
    → All (λ (o : Override). All (λ (one : TaskSlot). one.task ≡ task → MaySet row one.slot o.value)
    (slots_at index o.global)) overrides
overrides_fit types globals tasks index task t overrides row kept e h typed k d lt j b within same =
    let o = get_or overrides k d in
    let slots = slots_at index o.global in
    let one = get_or slots j b in
    let layouts = layouts_of tasks in
    let layout : slice_get layouts task ≡ Some t.layout =
    slice_get-map (λ (t : TaskRow). t.layout) tasks task ∙ ap (option_map (λ (t : TaskRow). t.layout)) e in
    let may = each_may_have layouts slots o.global o.value (slots_of layouts index slots o.global kept.indexed refl)
    (may_give types globals tasks o.global o.value kept.image (h k d lt)) j b within in
    may_set row (lasting_types t.layout.verified.code) one.slot o.value typed
    (may_here layouts task one.task one.slot o.value t.layout layout same may)

under_is : (types : List IlType) (globals : List Value) (tasks : List TaskRow) (index : List (List TaskSlot))
    (task : ℕ) (t : TaskRow) (overrides : List Override) → IsKept types globals tasks index
    → slice_get tasks task ≡ Some t → AreAllowed types overrides
    → row_under index task overrides t.row
    ≡ map (global_value (globals_under overrides globals)) t.layout.externals
    ++ drop (length t.layout.externals) t.row
under_is types globals tasks index task t overrides kept e h =
    under_ready index task overrides globals t.layout.externals t.row (all_in tasks index task t kept.indexed e)
    (known_by types overrides (length globals) (sym (as_long globals types kept.image.globals)) h)
    (kept.ready.rows task t e)

pub under_in_types : (types : List IlType) (globals : List Value) (tasks : List TaskRow)
    (index : List (List TaskSlot)) (task : ℕ) (t : TaskRow) (overrides : List Override)
    → IsKept types globals tasks index → slice_get tasks task ≡ Some t → AreAllowed types overrides → IsTaskRow t
    → AreOf (row_under index task overrides t.row) (lasting_types t.layout.verified.code)
under_in_types types globals tasks index task t overrides kept e h typed =
    let slots = lasting_types t.layout.verified.code in
    let lawful = lawful_row types globals tasks task t kept.image e in
    subst (λ (row : List Value). AreOf row slots) (sym (under_is types globals tasks index task t overrides kept e h))
    (slots_typed types slots (globals_under overrides globals) t.layout.externals
    (drop (length t.layout.externals) t.row) lawful.typed
    (under_typed types overrides globals h kept.image.globals) (shown_typed t typed).values)

pub taken_under : (types : List IlType) (globals : List Value) (tasks : List TaskRow) (index : List (List TaskSlot))
    (image : ProcessImage) (task : ℕ) (t : TaskRow) (overrides : List Override)
    → IsKept types globals tasks index → shown_image types globals tasks ≡ image → slice_get tasks task ≡ Some t
    → AreAllowed types overrides → (slot : ℕ)
    → slice_get (row_under index task overrides t.row) slot
    ≡ option_and_then (value_under overrides image) (variable_in (layout_of image) task slot)
taken_under types globals tasks index image task t overrides kept view e h slot =
    let lawful = lawful_row types globals tasks task t kept.image e in
    let has : HasGlobals t.layout (globals_under overrides globals) = record {
      types = types;
      typed = lawful.typed;
      values = under_typed types overrides globals h kept.image.globals;
    } in
    ap (λ (row : List Value). slice_get row slot) (under_is types globals tasks index task t overrides kept e h)
    ∙ slot_under overrides (shown_image types globals tasks) task slot (shown t) (task_at tasks task t e) h
    kept.image.globals has
    ∙ ap (λ (i : ProcessImage). option_and_then (value_under overrides i) (variable_in (layout_of i) task slot)) view
