-- What a commit leaves of rows: the image is what a scan leaves of it, and each row is ready again.
use Rattle.std.proofs.Common.{◌≡◌, ℕ, zero, suc, ◌<◌, ◌≤◌, List, [], ◌∷◌, ◌++◌, map, take, drop, length, get_or}
use Rattle.std.proofs.Common.{true, false, Option, Some, None, refl, sym, ap, ◌∙◌, subst, arith, inl, inr}
use Rattle.std.specs.Prelude.{All, slice_get, slice_set}
use Rattle.std.specs.Option.{IsSomeAnd, option_map}
use Rattle.std.proofs.lemmas.Bool.{cases_eq, eqb-true}
use Rattle.std.proofs.lemmas.List.{drop_at, take_at, length-map, length-append, length-take-le, map-set, length-set}
use Rattle.std.proofs.lemmas.Option.{slice_get-map, slice_get_within, slice_get-get_or}
use Rattle.iltypes.specs.declared.value.IlType.{IlType}
use Rattle.iltypes.specs.declared.value.Value.{Value}
use Rattle.iltypes.specs.declared.value.Value.TheVariants as values
use Rattle.iltypes.specs.Values.{IsOf, AreOf}
use Rattle.ilblocks.specs.Calls.{Block}
use Rattle.ilblocks.proofs.Blocks.{as_long, set_typed}
use Rattle.ilverify.specs.Listings.{lasting_types}
use Rattle.ilverify.specs.Verdicts.{Accepted}
use Rattle.ilmachine.specs.declared.external.External.{External}
use Rattle.ilmachine.specs.declared.slots.TaskSlot.{TaskSlot}
use Rattle.ilmachine.specs.declared.slots.StoredSlot.{StoredSlot}
use Rattle.ilmachine.specs.Images.{TaskLayout, TaskImage, ProcessImage, image_of, layout_of, verified_of}
use Rattle.ilmachine.specs.Images.{AreTyped, IsImage, stored_slots, IsLawful, IsLawfulTask}
use Rattle.ilmachine.specs.ImageSteps.{global_value, stored_globals}
use Rattle.ilmachine.specs.Snapshots.{IsLastingOf, MayHave}
use Rattle.ilmachine.specs.TaskRows.{TaskRow, shown, shown_image, IsReady, AreReady}
use Rattle.ilmachine.specs.RowSteps.{layouts_of, is_global, names_in, stored_by}
use Rattle.ilmachine.specs.RowSteps.{kept_task, IsIndex, IsKept, MaySlotHave, MaySlotsHave, AreStorable}
use Rattle.ilmachine.proofs.ImagePlaces.{at_all, there, typed_there, externals_fit}
use Rattle.ilmachine.proofs.Commits.{get_set_same, get_set_other, committed, stored_typed, IsScanned, image_stays}
use Rattle.ilmachine.proofs.RowKinds.{here}
use Rattle.ilmachine.proofs.RowSlots.{read_there, same_layouts}
use Rattle.ilmachine.proofs.RowReady.{task_at}
use Rattle.ilmachine.proofs.StoredSlots.{all_stores, stores_all}

-- ---- values that may be written

typed_slot : (types slots : List IlType) (externals : List External) (slot : ℕ) (x : External) (value : Value)
    → AreTyped types slots externals → slice_get externals slot ≡ Some x → MayHave types x.global value
    → MayHave slots slot value
typed_slot types slots [] slot x value t e h = absurd (cc)
typed_slot types [] (y ∷ more) slot x value t e h = absurd t
typed_slot types (type ∷ slots) (y ∷ more) zero x value t e h =
    let q : y ≡ x = cc in
    subst (λ (o : Option IlType). IsSomeAnd o (IsOf value))
    (ap (λ (z : External). slice_get types z.global) (sym q) ∙ t.0) h
typed_slot types (type ∷ slots) (y ∷ more) (suc slot) x value t e h = typed_slot types slots more slot x value t.1 e h

-- and the other way: the slot's type is the global's
slot_typed : (types slots : List IlType) (externals : List External) (slot : ℕ) (x : External) (value : Value)
    → AreTyped types slots externals → slice_get externals slot ≡ Some x → MayHave slots slot value
    → MayHave types x.global value
slot_typed types slots [] slot x value t e h = absurd (cc)
slot_typed types [] (y ∷ more) slot x value t e h = absurd t
slot_typed types (type ∷ slots) (y ∷ more) zero x value t e h =
    let q : y ≡ x = cc in
    here (slice_get types x.global) (IsOf value) type
    (ap (λ (z : External). slice_get types z.global) (sym q) ∙ t.0) h
slot_typed types (type ∷ slots) (y ∷ more) (suc slot) x value t e h = slot_typed types slots more slot x value t.1 e h

by_external : (types : List IlType) (t : TaskLayout) (slot global : ℕ) (value : Value) (o : Option External)
    → AreTyped types (lasting_types t.verified.code) t.externals → slice_get t.externals slot ≡ o
    → is_global global o ≡ true → MayHave types global value → MayHave (lasting_types t.verified.code) slot value
by_external types t slot global value None a e n h = absurd (cc)
by_external types t slot global value (Some x) a e n h =
    let q : x.global ≡ global = eqb-true x.global global n in
    typed_slot types (lasting_types t.verified.code) t.externals slot x value a e
    (subst (λ (g : ℕ). MayHave types g value) (sym q) h)

by_task : (types : List IlType) (layouts : List TaskLayout) (task slot global : ℕ) (value : Value)
    (o : Option TaskLayout) → All (IsLawfulTask types) layouts → slice_get layouts task ≡ o
    → names_in o slot global ≡ true → MayHave types global value → MaySlotHave layouts value task slot
by_task types layouts task slot global value None l e n h = absurd (cc)
by_task types layouts task slot global value (Some t) l e n h =
    here (slice_get layouts task) (λ (t : TaskLayout). MayHave (lasting_types t.verified.code) slot value) t e
    (by_external types t slot global value (slice_get t.externals slot)
    (at_all (IsLawfulTask types) layouts task t l e).typed refl n h)

-- the layouts as the image shows them
pub layouts_shown : (tasks : List TaskRow) → map (λ (t : TaskImage). t.layout) (map shown tasks) ≡ layouts_of tasks
layouts_shown [] = refl
layouts_shown (t ∷ tasks) = ap (λ (ls : List TaskLayout). t.layout ∷ ls) (layouts_shown tasks)

pub may_give : (types : List IlType) (globals : List Value) (tasks : List TaskRow) (global : ℕ) (value : Value)
    → IsImage (shown_image types globals tasks) → MayHave types global value
    → MaySlotsHave (layouts_of tasks) global value
may_give types globals tasks global value i h task slot n =
    by_task types (layouts_of tasks) task slot global value (slice_get (layouts_of tasks) task)
    (subst (All (IsLawfulTask types)) (layouts_shown tasks) i.lawful.tasks) refl n h

-- ---- the image after an input was set

pub input_kept : (types : List IlType) (globals gs : List Value) (tasks after : List TaskRow)
    (index : List (List TaskSlot)) (global : ℕ) (value : Value) → IsKept types globals tasks index
    → MayHave types global value → gs ≡ slice_set globals global value → layouts_of after ≡ layouts_of tasks
    → map shown after ≡ map shown tasks → AreReady gs after → IsKept types gs after index
input_kept types globals gs tasks after index global value k may g l s r =
    let t = there (slice_get types global) (IsOf value) may in
    record {
      image = record {
        lawful = subst (λ (ts : List TaskImage). IsLawful (layout_of (image_of types gs ts))) (sym s) k.image.lawful;
        globals = subst (λ (gs : List Value). AreOf gs types) (sym g)
            (set_typed globals types global value t.of k.image.globals t.is t.holds);
      };
      ready = r;
      indexed = subst (λ (ls : List TaskLayout). IsIndex ls index) (sym l) k.indexed;
      each = k.each ∙ sym (length-set globals global value) ∙ ap length (sym g);
    }

-- ---- the task of a scan

pub record IsLeaving (types : List IlType) (tasks : List TaskRow) (task : ℕ) (vs : List Value) (blocks : List Block) :
    Type 0 where
  pub of : TaskRow
  pub is : slice_get tasks task ≡ Some of
  pub layout : slice_get (layouts_of tasks) task ≡ Some of.layout
  pub lasting : IsLastingOf of.layout.verified.code (record { slots = vs; blocks = blocks })
  pub lawful : IsLawfulTask types of.layout

abbrev codes_in : Option TaskLayout → Option Accepted
codes_in o = option_map (λ (t : TaskLayout). t.verified) o

abbrev Lasts : List Value → List Block → Accepted → Type 0
Lasts vs blocks v = IsLastingOf v.code (record { slots = vs; blocks = blocks })

by_row : (types : List IlType) (tasks : List TaskRow) (task : ℕ) (vs : List Value) (blocks : List Block)
    (o : Option TaskRow) → All (IsLawfulTask types) (layouts_of tasks) → slice_get tasks task ≡ o
    → IsSomeAnd (codes_in (option_map (λ (t : TaskRow). t.layout) o)) (Lasts vs blocks)
    → IsLeaving types tasks task vs blocks
by_row types tasks task vs blocks None l e h = absurd h
by_row types tasks task vs blocks (Some t) l e h =
    let layout : slice_get (layouts_of tasks) task ≡ Some t.layout =
    slice_get-map (λ (t : TaskRow). t.layout) tasks task ∙ ap (option_map (λ (t : TaskRow). t.layout)) e in
    record {
      of = t;
      is = e;
      layout = layout;
      lasting = h;
      lawful = at_all (IsLawfulTask types) (layouts_of tasks) task t.layout l layout;
    }

pub leaving : (types : List IlType) (globals : List Value) (tasks : List TaskRow) (index : List (List TaskSlot))
    (image : ProcessImage) (task : ℕ) (vs : List Value) (blocks : List Block) → IsKept types globals tasks index
    → shown_image types globals tasks ≡ image
    → IsSomeAnd (verified_of (layout_of image) task) (Lasts vs blocks) → IsLeaving types tasks task vs blocks
leaving types globals tasks index image task vs blocks k view h =
    let all = layouts_shown tasks in
    by_row types tasks task vs blocks (slice_get tasks task)
    (subst (All (IsLawfulTask types)) all k.image.lawful.tasks) refl
    (subst (λ (o : Option TaskLayout). IsSomeAnd (codes_in o) (Lasts vs blocks))
    (ap (λ (ls : List TaskLayout). slice_get ls task) all ∙ slice_get-map (λ (t : TaskRow). t.layout) tasks task)
    (subst (λ (i : ProcessImage). IsSomeAnd (verified_of (layout_of i) task) (Lasts vs blocks)) (sym view) h))

value_typed : (vs : List Value) (ts : List IlType) (place : ℕ) (v : Value) → AreOf vs ts → slice_get vs place ≡ Some v
    → MayHave ts place v
value_typed [] ts place v a e = absurd (cc)
value_typed (w ∷ vs) [] place v a e = absurd a
value_typed (w ∷ vs) (t ∷ ts) zero v a e = let q : w ≡ v = cc in subst (λ (x : Value). IsOf x t) q a.0
value_typed (w ∷ vs) (t ∷ ts) (suc place) v a e = value_typed vs ts place v a.1 e

pub storable : (types : List IlType) (globals : List Value) (tasks : List TaskRow) (index : List (List TaskSlot))
    (task : ℕ) (vs : List Value) (blocks : List Block) → IsKept types globals tasks index
    → IsLeaving types tasks task vs blocks
    → IsSomeAnd (slice_get (layouts_of tasks) task) (λ (t : TaskLayout).
    AreStorable (layouts_of tasks) vs (length globals) (stored_slots t.externals))
storable types globals tasks index task vs blocks k c =
    let t = c.of.layout in
    let slots = lasting_types t.verified.code in
    let off = values.Bool false in
    let fit = externals_fit types slots t.externals c.lawful.typed in
    let filled = as_long vs slots c.lasting.values in
    let all = as_long globals types k.image.globals in
    let globals_there = typed_there types slots t.externals c.lawful.typed in
    here (slice_get (layouts_of tasks) task)
    (λ (t : TaskLayout). AreStorable (layouts_of tasks) vs (length globals) (stored_slots t.externals)) t c.layout
    (record {
      there = all_stores (λ (one : StoredSlot). one.slot < length vs) t.externals
          (λ s x e. let w = slice_get_within t.externals s x e in omega arith);
      known = all_stores (λ (one : StoredSlot). one.global < length globals) t.externals
          (λ s x e. let w = at_all (λ (y : External). y.global < length types) t.externals s x globals_there e in
          omega arith);
      fit = all_stores (λ (one : StoredSlot). MaySlotsHave (layouts_of tasks) one.global (get_or vs one.slot off))
          t.externals (λ s x e.
          let w = slice_get_within t.externals s x e in
          may_give types globals tasks x.global (get_or vs s off) k.image
          (slot_typed types slots t.externals s x (get_or vs s off) c.lawful.typed e
          (value_typed vs slots s (get_or vs s off) c.lasting.values (slice_get-get_or vs s off (omega arith)))));
    })

-- ---- what storing leaves

pub record IsStored (globals gs : List Value) (tasks after : List TaskRow) (task : ℕ) (vs : List Value) : Type 0 where
  pub written : (t : TaskLayout) → slice_get (layouts_of tasks) task ≡ Some t
      → gs ≡ stored_by (stored_slots t.externals) vs globals
  pub layouts : layouts_of after ≡ layouts_of tasks
  pub shown : map shown after ≡ map shown tasks
  pub ready : AreReady gs after

globals_stored : (types : List IlType) (globals gs : List Value) (tasks after : List TaskRow) (task : ℕ)
    (vs : List Value) (blocks : List Block) → (c : IsLeaving types tasks task vs blocks)
    → IsStored globals gs tasks after task vs → gs ≡ stored_globals c.of.layout.externals vs globals
globals_stored types globals gs tasks after task vs blocks c s =
    let t = c.of.layout in
    let fit = externals_fit types (lasting_types t.verified.code) t.externals c.lawful.typed in
    let filled = as_long vs (lasting_types t.verified.code) c.lasting.values in
    s.written t c.layout ∙ stores_all t.externals vs globals (omega arith)

-- the task that an index reads then
pub layout_read : (tasks first : List TaskRow) (task : ℕ) (read : TaskRow) (t : TaskLayout)
    → layouts_of tasks ≡ layouts_of first → slice_get (layouts_of first) task ≡ Some t → read ≡ get_or tasks task read
    → read.layout ≡ t
layout_read tasks first task read t same e r =
    let within = slice_get_within (layouts_of first) task t e in
    let n = ap length same in
    let m = length-map tasks (λ (t : TaskRow). t.layout) in
    let is = read_there tasks task read (omega arith) r in
    let f : slice_get (layouts_of tasks) task ≡ Some read.layout =
    slice_get-map (λ (t : TaskRow). t.layout) tasks task ∙ ap (option_map (λ (t : TaskRow). t.layout)) is in
    let g : slice_get (layouts_of tasks) task ≡ Some t = ap (λ (ls : List TaskLayout). slice_get ls task) same ∙ e in
    cc

pub task_within : (tasks first : List TaskRow) (task : ℕ) (t : TaskLayout) → layouts_of tasks ≡ layouts_of first
    → slice_get (layouts_of first) task ≡ Some t → task < length tasks
task_within tasks first task t same e =
    let w = slice_get_within (layouts_of first) task t e in
    let n = ap length same in
    let m = length-map tasks (λ (t : TaskRow). t.layout) in
    omega arith

-- ---- the task that keeps what the scan left

front_long : (gs : List Value) (t : TaskRow) → IsReady gs t → length t.layout.externals ≤ length t.row
front_long gs t r =
    let n = ap length r in
    let front = map (global_value gs) t.layout.externals in
    let a = length-append front (shown t).own.slots in
    let b = length-map t.layout.externals (global_value gs) in
    omega arith

own_kept : (gs : List Value) (t : TaskRow) (vs : List Value) (blocks : List Block) → IsReady gs t
    → (shown (kept_task t vs blocks)).own.slots ≡ drop (length t.layout.externals) vs
own_kept gs t vs blocks r =
    let n = length t.layout.externals in
    drop_at (take n t.row) (drop n vs) n (length-take-le n t.row (front_long gs t r))

pub still_ready : (gs : List Value) (t : TaskRow) (vs : List Value) (blocks : List Block) → IsReady gs t
    → IsReady gs (kept_task t vs blocks)
still_ready gs t vs blocks r =
    let n = length t.layout.externals in
    let front = map (global_value gs) t.layout.externals in
    let taken : take n t.row ≡ front =
    ap (take n) r ∙ take_at front (shown t).own.slots n (length-map t.layout.externals (global_value gs)) in
    ap (λ (xs : List Value). xs ++ drop n vs) taken
    ∙ ap (λ (own : List Value). front ++ own) (sym (own_kept gs t vs blocks r))

-- the image shows what a commit leaves
pub after_commit : (types : List IlType) (globals gs : List Value) (tasks after : List TaskRow) (task : ℕ)
    (vs : List Value) (blocks : List Block) (read : TaskRow) (c : IsLeaving types tasks task vs blocks)
    → IsStored globals gs tasks after task vs → IsReady gs read → read.layout ≡ c.of.layout
    → shown_image types gs (slice_set after task (kept_task read vs blocks))
    ≡ committed (shown_image types globals tasks) task (shown c.of) vs blocks
after_commit types globals gs tasks after task vs blocks read c s r same =
    let t = c.of.layout in
    let kept = kept_task read vs blocks in
    ap (λ (g : List Value). image_of types g (map shown (slice_set after task kept)))
    (globals_stored types globals gs tasks after task vs blocks c s)
    ∙ ap (image_of types (stored_globals t.externals vs globals))
    (map-set shown after task kept
    ∙ ap (λ (ts : List TaskImage). slice_set ts task (shown kept)) s.shown
    ∙ ap (slice_set (map shown tasks) task)
    (ap (λ (own : List Value). record { layout = read.layout; own = record { slots = own; blocks = blocks } })
    (own_kept gs read vs blocks r)
    ∙ ap (λ (l : TaskLayout). record {
      layout = l;
      own = record { slots = drop (length l.externals) vs; blocks = blocks };
    }) same))

pub scanned : (types : List IlType) (globals : List Value) (tasks : List TaskRow) (index : List (List TaskSlot))
    (task : ℕ) (vs : List Value) (blocks : List Block) → IsKept types globals tasks index
    → (c : IsLeaving types tasks task vs blocks) → IsScanned (shown_image types globals tasks) task (shown c.of) vs
scanned types globals tasks index task vs blocks k c =
    record { whole = k.image; is = task_at tasks task c.of c.is; typed = c.lasting.values }

ready_after : (gs : List Value) (after : List TaskRow) (task : ℕ) (read kept : TaskRow) (other : ℕ) (t : TaskRow)
    → AreReady gs after → slice_get after task ≡ Some read → IsReady gs kept
    → slice_get (slice_set after task kept) other ≡ Some t → IsReady gs t
ready_after gs after task read kept other t r is k e =
    elim (cases_eq task other) [
      | inl same ↦
          let f : slice_get (slice_set after task kept) other ≡ Some kept =
          ap (slice_get (slice_set after task kept)) (sym same) ∙ get_set_same after task kept read is in
          let q : kept ≡ t = cc in
          subst (IsReady gs) q k
      | inr apart ↦
          r.rows other t (sym (get_set_other after task other kept apart) ∙ e)
    ]

pub commit_kept : (types : List IlType) (globals gs : List Value) (tasks after : List TaskRow)
    (index : List (List TaskSlot)) (task : ℕ) (vs : List Value) (blocks : List Block) (read : TaskRow)
    → IsKept types globals tasks index → (c : IsLeaving types tasks task vs blocks)
    → IsStored globals gs tasks after task vs → slice_get after task ≡ Some read → read.layout ≡ c.of.layout
    → IsKept types gs (slice_set after task (kept_task read vs blocks)) index
commit_kept types globals gs tasks after index task vs blocks read k c s is same =
    let t = c.of.layout in
    let kept = kept_task read vs blocks in
    let ready = s.ready.rows task read is in
    let stored = globals_stored types globals gs tasks after task vs blocks c s in
    let typed = subst (λ (gs : List Value). AreOf gs types) (sym stored)
    (stored_typed types (lasting_types t.verified.code) t.externals vs globals c.lawful.typed c.lasting.values
    k.image.globals) in
    let n = as_long globals types k.image.globals in
    let m = as_long gs types typed in
    record {
      image = subst IsImage (sym (after_commit types globals gs tasks after task vs blocks read c s ready same))
          (image_stays (shown_image types globals tasks) task (shown c.of) vs blocks
          (scanned types globals tasks index task vs blocks k c));
      ready = record {
        rows = λ other u e.
            ready_after gs after task read kept other u s.ready is (still_ready gs read vs blocks ready) e;
      };
      indexed = subst (λ (ls : List TaskLayout). IsIndex ls index)
          (sym (same_layouts after task read kept is refl ∙ s.layouts)) k.indexed;
      each = k.each ∙ n ∙ sym m;
    }

-- the slots that an index reads from the fields
pub stores_read : (tasks first : List TaskRow) (task : ℕ) (read : TaskRow) (t : TaskLayout)
    → layouts_of tasks ≡ layouts_of first → slice_get (layouts_of first) task ≡ Some t → read ≡ get_or tasks task read
    → stored_slots read.layout.externals ≡ stored_slots t.externals
stores_read tasks first task read t same e r =
    ap (λ (l : TaskLayout). stored_slots l.externals) (layout_read tasks first task read t same e r)

-- one turn of the loop over these slots
pub record IsStoring (first : List TaskRow) (task number : ℕ) (seen : List StoredSlot) (row : List Value)
    (globals : ℕ) : Type 0 where
  pub of : TaskLayout
  pub is : slice_get (layouts_of first) task ≡ Some of
  pub storable : AreStorable (layouts_of first) row globals (stored_slots of.externals)
  pub stores : seen ≡ stored_slots of.externals
  pub within : number < length (stored_slots of.externals)

pub storing : (first tasks : List TaskRow) (task number : ℕ) (begun read : TaskRow) (seen counted : List StoredSlot)
    (row : List Value) (globals : ℕ)
    → IsSomeAnd (slice_get (layouts_of first) task)
    (λ (t : TaskLayout). AreStorable (layouts_of first) row globals (stored_slots t.externals))
    → layouts_of tasks ≡ layouts_of first → read ≡ get_or tasks task read
    → seen ≡ stored_slots read.layout.externals → begun ≡ get_or first task begun
    → counted ≡ stored_slots begun.layout.externals → number < length counted
    → IsStoring first task number seen row globals
storing first tasks task number begun read seen counted row globals h same r s b c lt =
    let t = there (slice_get (layouts_of first) task)
    (λ (t : TaskLayout). AreStorable (layouts_of first) row globals (stored_slots t.externals)) h in
    let count = ap length (c ∙ stores_read first first task begun t.of refl t.is b) in
    record {
      of = t.of;
      is = t.is;
      storable = t.holds;
      stores = s ∙ stores_read tasks first task read t.of same t.is r;
      within = omega arith;
    }
