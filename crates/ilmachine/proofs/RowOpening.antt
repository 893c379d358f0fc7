-- The rows of an image that is made: each is ready, and they show the tasks that the image is made of.
use Rattle.std.proofs.Common.{◌≡◌, ℕ, ◌<◌, List, [], ◌∷◌, map, length, get_or, refl, sym, ap}
use Rattle.std.proofs.Common.{◌∙◌, subst}
use Rattle.std.specs.Prelude.{All, slice_get}
use Rattle.std.proofs.lemmas.List.{drop_at, length-map}
use Rattle.std.proofs.lemmas.Option.{slice_get-map, slice_get-get_or}
use Rattle.iltypes.specs.declared.value.IlType.{IlType}
use Rattle.iltypes.specs.declared.value.Value.{Value}
use Rattle.ilblocks.proofs.Blocks.{as_long}
use Rattle.ilverify.specs.Listings.{lasting_types}
use Rattle.ilmachine.specs.declared.external.External.{External}
use Rattle.ilmachine.specs.declared.slots.TaskSlot.{TaskSlot}
use Rattle.ilmachine.specs.Images.{TaskImage, image_of, IsImage}
use Rattle.ilmachine.specs.ImageSteps.{global_value, slot_values, HasGlobals}
use Rattle.ilmachine.specs.TaskRows.{TaskRow, shown, ready_task, IsReady}
use Rattle.ilmachine.specs.RowSteps.{IsIndex, IsKept, layouts_of}
use Rattle.ilmachine.proofs.ImagePlaces.{typed_there}
use Rattle.ilmachine.proofs.Commits.{lawful_task}
use Rattle.ilmachine.proofs.RowReady.{came_from}

shown_ready : (globals : List Value) (t : TaskImage) → shown (ready_task globals t) ≡ t
shown_ready globals t =
    ap (λ (own : List Value). record { layout = t.layout; own = record { slots = own; blocks = t.own.blocks } })
    (drop_at (map (global_value globals) t.layout.externals) t.own.slots (length t.layout.externals)
    (length-map t.layout.externals (global_value globals)))

pub shown_again : (globals : List Value) (tasks : List TaskImage) → map shown (map (ready_task globals) tasks) ≡ tasks
shown_again globals [] = refl
shown_again globals (t ∷ tasks) =
    ap (λ (u : TaskImage). u ∷ map shown (map (ready_task globals) tasks)) (shown_ready globals t)
    ∙ ap (λ (ts : List TaskImage). t ∷ ts) (shown_again globals tasks)

pub all_have : (types : List IlType) (globals : List Value) (tasks : List TaskImage)
    → IsImage (image_of types globals tasks) → All (λ (t : TaskImage). HasGlobals t.layout globals) tasks
all_have types globals tasks i k d lt =
    let image = image_of types globals tasks in
    let lawful = lawful_task image k (get_or tasks k d) i (slice_get-get_or tasks k d lt) in
    record { types = types; typed = lawful.typed; values = i.globals }

pub rows_known : (types : List IlType) (globals : List Value) (tasks : List TaskImage) (rows : List TaskRow)
    → IsImage (image_of types globals tasks) → rows ≡ map (ready_task globals) tasks
    → All (λ (t : TaskRow). All (λ (e : External). e.global < length globals) t.layout.externals) rows
rows_known types globals tasks rows i q k d lt =
    let image = image_of types globals tasks in
    let row = get_or rows k d in
    let c = came_from (ready_task globals) (slice_get tasks k) row
    (sym (slice_get-map (ready_task globals) tasks k)
    ∙ sym (ap (λ (rs : List TaskRow). slice_get rs k) q) ∙ slice_get-get_or rows k d lt) in
    let lawful = lawful_task image k c.of i c.is in
    let all = typed_there types (lasting_types c.of.layout.verified.code) c.of.layout.externals lawful.typed in
    subst (λ (t : TaskRow). All (λ (e : External). e.global < length globals) t.layout.externals) c.gives
    (subst (λ (n : ℕ). All (λ (e : External). e.global < n) c.of.layout.externals)
    (sym (as_long globals types i.globals)) all)

pub made_kept : (types : List IlType) (globals : List Value) (tasks : List TaskImage) (rows : List TaskRow)
    (index : List (List TaskSlot)) → IsImage (image_of types globals tasks) → rows ≡ map (ready_task globals) tasks
    → IsIndex (layouts_of rows) index → length index ≡ length globals → IsKept types globals rows index
made_kept types globals tasks rows index i q indexed each =
    let same : map shown rows ≡ tasks = ap (map shown) q ∙ shown_again globals tasks in
    record {
      image = subst (λ (ts : List TaskImage). IsImage (image_of types globals ts)) (sym same) i;
      ready = record {
        rows = λ task t e.
            let c = came_from (ready_task globals) (slice_get tasks task) t
            (sym (slice_get-map (ready_task globals) tasks task)
            ∙ sym (ap (λ (rs : List TaskRow). slice_get rs task) q) ∙ e) in
            subst (IsReady globals) c.gives (ap (slot_values globals) (sym (shown_ready globals c.of)));
      };
      indexed = indexed;
      each = each;
    }
