-- Images of one layout, with the same values and block instances, are equal.
use Rattle.std.proofs.Common.{◌≡◌, ℕ, suc, List, [], ◌∷◌, map, refl, ap, ◌∙◌}
use Rattle.std.specs.Prelude.{slice_get}
use Rattle.std.specs.Option.{option_map, option_and_then}
use Rattle.iltypes.specs.declared.value.IlType.{IlType}
use Rattle.iltypes.specs.declared.value.Value.{Value}
use Rattle.ilblocks.specs.Calls.{Block}
use Rattle.ilmachine.specs.Images.{TaskLayout, TaskImage, ProcessImage, Layout, Global, Own, image_of}
use Rattle.ilmachine.specs.Laws.{AreAlike}

pub same_items : {A : Type 0} (xs ys : List A) → ((place : ℕ) → slice_get xs place ≡ slice_get ys place) → xs ≡ ys
same_items [] [] h = refl
same_items [] (y ∷ ys) h = let e = h 0 in absurd (cc)
same_items (x ∷ xs) [] h = let e = h 0 in absurd (cc)
same_items (x ∷ xs) (y ∷ ys) h =
    let e = h 0 in
    let q : x ≡ y = cc in
    let r = same_items xs ys (λ place. h (suc place)) in
    cc

abbrev make : TaskLayout → List Value → List Block → TaskImage
make layout values blocks = record { layout = layout; own = record { slots = values; blocks = blocks } }

same_task : (t u : TaskImage) → t.layout ≡ u.layout → t.own.slots ≡ u.own.slots → t.own.blocks ≡ u.own.blocks → t ≡ u
same_task t u l s b =
    ap (λ (x : TaskLayout). make x t.own.slots t.own.blocks) l ∙ ap (λ (x : List Value). make u.layout x t.own.blocks) s
    ∙ ap (λ (x : List Block). make u.layout u.own.slots x) b

same_tasks : (ts us : List TaskImage) → map (λ (t : TaskImage). t.layout) ts ≡ map (λ (t : TaskImage). t.layout) us
    → ((task number : ℕ) → option_and_then (λ (t : TaskImage). slice_get t.own.slots number) (slice_get ts task)
    ≡ option_and_then (λ (t : TaskImage). slice_get t.own.slots number) (slice_get us task))
    → ((task : ℕ) → option_map (λ (t : TaskImage). t.own.blocks) (slice_get ts task)
    ≡ option_map (λ (t : TaskImage). t.own.blocks) (slice_get us task))
    → ts ≡ us
same_tasks [] [] l v b = refl
same_tasks [] (u ∷ us) l v b = absurd (cc)
same_tasks (t ∷ ts) [] l v b = absurd (cc)
same_tasks (t ∷ ts) (u ∷ us) l v b =
    let heads : t.layout ≡ u.layout = cc in
    let tails : map (λ (t : TaskImage). t.layout) ts ≡ map (λ (t : TaskImage). t.layout) us = cc in
    let e = b 0 in
    let blocks : t.own.blocks ≡ u.own.blocks = cc in
    let q = same_task t u heads (same_items t.own.slots u.own.slots (λ number. v 0 number)) blocks in
    let r = same_tasks ts us tails (λ task number. v (suc task) number) (λ task. b (suc task)) in
    cc

pub same_image : (image other : ProcessImage) → AreAlike image other → image ≡ other
same_image image other h =
    let types : image.types ≡ other.types = ap (λ (l : Layout). l.types) h.layout in
    let globals = same_items image.globals other.globals (λ number. h.values (Global number)) in
    let tasks = same_tasks image.tasks other.tasks (ap (λ (l : Layout). l.tasks) h.layout)
    (λ task number. h.values (Own task number)) h.blocks in
    ap (λ (x : List IlType). image_of x image.globals image.tasks) types
    ∙ ap (λ (x : List Value). image_of other.types x image.tasks) globals
    ∙ ap (λ (x : List TaskImage). image_of other.types other.globals x) tasks
