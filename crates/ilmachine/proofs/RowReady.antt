-- Rows that stay ready: after a global variable got a value in each of its slots, each row is what gathering gives.
use Rattle.std.proofs.Common.{◌≡◌, ℕ, zero, suc, ◌+◌, ◌<◌, ◌≤◌, List, [], ◌∷◌, ◌++◌, map, drop, length, get_or, Bool}
use Rattle.std.proofs.Common.{true}
use Rattle.std.proofs.Common.{false, cond, Option, Some, None, refl, sym, ap, ◌∙◌, subst, arith, get_or-set_same}
use Rattle.std.proofs.Common.{get_or-set_other}
use Rattle.std.specs.Prelude.{All, slice_get, slice_set, option_map, ◌==◌, ◌&&◌, ◌||◌}
use Rattle.std.specs.Option.{option_and_then}
use Rattle.std.proofs.lemmas.Bool.{eqb-true, eq-eqb}
use Rattle.std.proofs.lemmas.List.Elements.{All-from_get_or}
use Rattle.std.proofs.lemmas.Option.{slice_get-map, slice_get_past}
use Rattle.iltypes.specs.declared.value.IlType.{IlType}
use Rattle.iltypes.specs.declared.value.Value.{Value}
use Rattle.iltypes.specs.declared.value.Value.TheVariants as values
use Rattle.ilmachine.specs.declared.external.External.{External}
use Rattle.ilmachine.specs.declared.slots.TaskSlot.{TaskSlot}
use Rattle.ilmachine.specs.Images.{TaskLayout, TaskImage, ProcessImage, layout_of, value_of, variable_in}
use Rattle.ilmachine.specs.Images.{IsLawfulTask, IsImage}
use Rattle.ilmachine.specs.ImageSteps.{global_value, HasGlobals}
use Rattle.ilmachine.specs.TaskRows.{TaskRow, shown, shown_image, IsReady, AreReady}
use Rattle.ilmachine.specs.RowSteps.{task_with, row_with, layouts_of, has_slot, slots_at, is_global, names, names_in}
use Rattle.ilmachine.specs.RowSteps.{IsIndex, IsKept, MaySlotHave, MaySlotsHave}
use Rattle.ilmachine.proofs.ImagePlaces.{at_all, slot_value}
use Rattle.ilmachine.proofs.Commits.{get_drop}
use Rattle.ilmachine.proofs.Equality.{same_items}
use Rattle.ilmachine.proofs.RowSlots.{neq-eqb, sucs, no_slot}

-- ---- a row after a value was written into slots of it

abbrev replaced : Value → Option Value → Option Value
replaced v o = option_map (λ (_ : Value). v) o

set_at : (row : List Value) (k s : ℕ) (v : Value)
    → slice_get (slice_set row k v) s ≡ cond (k == s) (replaced v (slice_get row s)) (slice_get row s)
set_at [] k s v =
    elim (k == s) as (λ (b : Bool). None ≡ cond b (replaced v None) None) [
      | true ↦ refl
      | false ↦ refl
    ]
set_at (x ∷ row) zero zero v = refl
set_at (x ∷ row) zero (suc s) v =
    ap (λ (b : Bool). cond b (replaced v (slice_get row s)) (slice_get row s))
    (sym (neq-eqb 0 (suc s) (λ q. omega arith)))
set_at (x ∷ row) (suc k) zero v =
    ap (λ (b : Bool). cond b (Some v) (Some x)) (sym (neq-eqb (suc k) 0 (λ q. omega arith)))
set_at (x ∷ row) (suc k) (suc s) v =
    set_at row k s v ∙ ap (λ (b : Bool). cond b (replaced v (slice_get row s)) (slice_get row s)) (sucs k s)

one_at : (row : List Value) (b : Bool) (k s : ℕ) (v : Value)
    → slice_get (cond b (slice_set row k v) row) s
    ≡ cond (b && k == s) (replaced v (slice_get row s)) (slice_get row s)
one_at row true k s v = set_at row k s v
one_at row false k s v = refl

twice : (o : Option Value) (v : Value) (a b : Bool)
    → cond b (replaced v (cond a (replaced v o) o)) (cond a (replaced v o) o) ≡ cond (a || b) (replaced v o) o
twice None v true true = refl
twice None v true false = refl
twice None v false b = refl
twice (Some x) v true true = refl
twice (Some x) v true false = refl
twice (Some x) v false b = refl

pub with_at : (slots : List TaskSlot) (v : Value) (task : ℕ) (row : List Value) (s : ℕ)
    → slice_get (row_with slots v task row) s
    ≡ cond (has_slot slots task s) (replaced v (slice_get row s)) (slice_get row s)
with_at [] v task row s = refl
with_at (one ∷ slots) v task row s =
    with_at slots v task (cond (one.task == task) (slice_set row one.slot v) row) s
    ∙ ap (λ (o : Option Value). cond (has_slot slots task s) (replaced v o) o)
    (one_at row (one.task == task) one.slot s v)
    ∙ twice (slice_get row s) v (one.task == task && one.slot == s) (has_slot slots task s)

-- ---- the front of a row

fronted : (f : External → Value) (externals : List External) (row : List Value)
    → ((s : ℕ) (x : External) → slice_get externals s ≡ Some x → slice_get row s ≡ Some (f x))
    → row ≡ map f externals ++ drop (length externals) row
fronted f [] row h = refl
fronted f (x ∷ externals) [] h = absurd (let q = h 0 x refl in cc)
fronted f (x ∷ externals) (r ∷ row) h =
    let q : Some r ≡ Some (f x) = h 0 x refl in
    let e : r ≡ f x = cc in
    ap (λ (z : Value). z ∷ row) e
    ∙ ap (λ (zs : List Value). f x ∷ zs) (fronted f externals row (λ s. h (suc s)))

pub front_at : (f : External → Value) (externals : List External) (own : List Value) (s : ℕ) (x : External)
    → slice_get externals s ≡ Some x → slice_get (map f externals ++ own) s ≡ Some (f x)
front_at f [] own s x e = absurd (cc)
front_at f (y ∷ externals) own zero x e = let q : y ≡ x = cc in ap (λ (z : External). Some (f z)) q
front_at f (y ∷ externals) own (suc s) x e = front_at f externals own s x e

-- ---- the tasks after a global variable was given a value in each of its slots

given : (globals : List Value) (global : ℕ) (v : Value) (x : External) (b : Bool) → (x.global == global) ≡ b
    → global < length globals
    → Some (global_value (slice_set globals global v) x) ≡ cond b (Some v) (Some (global_value globals x))
given globals global v x true e h =
    let q : x.global ≡ global = eqb-true x.global global e in
    ap Some (ap (λ (n : ℕ). get_or (slice_set globals global v) n (values.Bool false)) q
    ∙ get_or-set_same globals global v (values.Bool false) h)
given globals global v x false e h =
    ap Some (get_or-set_other globals global x.global v (values.Bool false)
    (λ q. let t : (x.global == global) ≡ true = eq-eqb x.global global q in cc))

-- these are the slots of a global variable
pub record AreSlotsOf (layouts : List TaskLayout) (slots : List TaskSlot) (global : ℕ) : Type 0 where
  pub are : (task slot : ℕ) → has_slot slots task slot ≡ names layouts task slot global

pub slots_of : (layouts : List TaskLayout) (index : List (List TaskSlot)) (slots : List TaskSlot) (global : ℕ)
    → IsIndex layouts index → slots ≡ slots_at index global → AreSlotsOf layouts slots global
slots_of layouts index slots global i q =
    record {
      are = λ task slot. ap (λ (ss : List TaskSlot). has_slot ss task slot) q ∙ i.slots global task slot;
    }

pub slots_in : (tasks : List TaskRow) (slots : List TaskSlot) (global task slot : ℕ) (t : TaskRow)
    → AreSlotsOf (layouts_of tasks) slots global → slice_get tasks task ≡ Some t
    → has_slot slots task slot ≡ is_global global (slice_get t.layout.externals slot)
slots_in tasks slots global task slot t s e =
    s.are task slot
    ∙ ap (λ (o : Option TaskLayout). names_in o slot global)
    (slice_get-map (λ (t : TaskRow). t.layout) tasks task ∙ ap (option_map (λ (t : TaskRow). t.layout)) e)

-- the slots of a global variable in one task
abbrev pub AreIn : List TaskSlot → ℕ → ℕ → List External → Type 0
AreIn slots task global externals =
    (slot : ℕ) → has_slot slots task slot ≡ is_global global (slice_get externals slot)

pub front_with : (globals : List Value) (externals : List External) (slots : List TaskSlot) (global : ℕ) (v : Value)
    (task : ℕ) (row : List Value) → AreIn slots task global externals → global < length globals
    → row ≡ map (global_value globals) externals ++ drop (length externals) row
    → row_with slots v task row
    ≡ map (global_value (slice_set globals global v)) externals
    ++ drop (length externals) (row_with slots v task row)
front_with globals externals slots global v task row s within ready =
    fronted (global_value (slice_set globals global v)) externals (row_with slots v task row)
    (λ n x is.
    let b = x.global == global in
    let was : slice_get row n ≡ Some (global_value globals x) =
    ap (λ (row : List Value). slice_get row n) ready
    ∙ front_at (global_value globals) externals (drop (length externals) row) n x is in
    let here : has_slot slots task n ≡ b = s n ∙ ap (is_global global) is in
    with_at slots v task row n
    ∙ ap (λ (o : Option Value). cond (has_slot slots task n) (replaced v o) o) was
    ∙ ap (λ (u : Bool). cond u (Some v) (Some (global_value globals x))) here
    ∙ sym (given globals global v x b refl within))

-- the slots of the task's own variables stay
pub own_with : (externals : List External) (slots : List TaskSlot) (global : ℕ) (v : Value) (task : ℕ)
    (row : List Value) → AreIn slots task global externals
    → drop (length externals) (row_with slots v task row) ≡ drop (length externals) row
own_with externals slots global v task row s =
    let n = length externals in
    same_items (drop n (row_with slots v task row)) (drop n row)
    (λ k.
    let past : n ≤ n + k = omega arith in
    let apart : has_slot slots task (n + k) ≡ false =
    s (n + k) ∙ ap (is_global global) (slice_get_past externals (n + k) past) in
    get_drop (row_with slots v task row) n k
    ∙ with_at slots v task row (n + k)
    ∙ ap (λ (u : Bool). cond u (replaced v (slice_get row (n + k))) (slice_get row (n + k))) apart
    ∙ sym (get_drop row n k))

ready_with : (globals : List Value) (tasks : List TaskRow) (slots : List TaskSlot) (global : ℕ) (v : Value)
    (task : ℕ) (t : TaskRow) → AreSlotsOf (layouts_of tasks) slots global → global < length globals
    → slice_get tasks task ≡ Some t → IsReady globals t
    → IsReady (slice_set globals global v) (task_with slots v task t)
ready_with globals tasks slots global v task t s within e ready =
    front_with globals t.layout.externals slots global v task t.row
    (λ slot. slots_in tasks slots global task slot t s e) within ready

shown_with : (tasks : List TaskRow) (slots : List TaskSlot) (global : ℕ) (v : Value) (task : ℕ) (t : TaskRow)
    → AreSlotsOf (layouts_of tasks) slots global → slice_get tasks task ≡ Some t
    → shown (task_with slots v task t) ≡ shown t
shown_with tasks slots global v task t s e =
    ap (λ (own : List Value). record { layout = t.layout; own = record { slots = own; blocks = t.blocks } })
    (own_with t.layout.externals slots global v task t.row (λ slot. slots_in tasks slots global task slot t s e))

-- what an option's image says of the option
pub record CameFrom {A B : Type 0} (f : A → B) (o : Option A) (y : B) : Type 0 where
  pub of : A
  pub is : o ≡ Some of
  pub gives : f of ≡ y

pub came_from : {A B : Type 0} (f : A → B) (o : Option A) (y : B) → option_map f o ≡ Some y → CameFrom f o y
came_from f None y e = absurd (cc)
came_from f (Some x) y e = record { of = x; is = refl; gives = cc }

-- each task was written into
abbrev pub AreWith : List TaskRow → List TaskRow → List TaskSlot → Value → Type 0
AreWith tasks after slots v =
    (task : ℕ) → slice_get after task ≡ option_map (task_with slots v task) (slice_get tasks task)

pub all_ready : (globals gs : List Value) (tasks after : List TaskRow) (slots : List TaskSlot) (global : ℕ) (v : Value)
    → AreSlotsOf (layouts_of tasks) slots global → global < length globals → gs ≡ slice_set globals global v
    → AreWith tasks after slots v → AreReady globals tasks → AreReady gs after
all_ready globals gs tasks after slots global v s within q with_all ready =
    record {
      rows = λ task u e.
          let c = came_from (task_with slots v task) (slice_get tasks task) u (sym (with_all task) ∙ e) in
          subst (λ (u : TaskRow). IsReady gs u) c.gives
          (subst (λ (gs : List Value). IsReady gs (task_with slots v task c.of)) (sym q)
          (ready_with globals tasks slots global v task c.of s within c.is (ready.rows task c.of c.is)));
    }

map_shown : (tasks : List TaskRow) (slots : List TaskSlot) (global : ℕ) (v : Value) (task : ℕ) (o : Option TaskRow)
    → AreSlotsOf (layouts_of tasks) slots global → slice_get tasks task ≡ o
    → option_map shown (option_map (task_with slots v task) o) ≡ option_map shown o
map_shown tasks slots global v task None s e = refl
map_shown tasks slots global v task (Some t) s e = ap Some (shown_with tasks slots global v task t s e)

pub all_shown : (tasks after : List TaskRow) (slots : List TaskSlot) (global : ℕ) (v : Value)
    → AreSlotsOf (layouts_of tasks) slots global → AreWith tasks after slots v → map shown after ≡ map shown tasks
all_shown tasks after slots global v s with_all =
    same_items (map shown after) (map shown tasks)
    (λ task. slice_get-map shown after task ∙ ap (option_map shown) (with_all task)
    ∙ map_shown tasks slots global v task (slice_get tasks task) s refl
    ∙ sym (slice_get-map shown tasks task))

-- ---- each slot may have the value

has_itself : (slots : List TaskSlot) (k : ℕ) → k < length slots
    → has_slot slots (get_or slots k no_slot).task (get_or slots k no_slot).slot ≡ true
has_itself [] k h = absurd (omega arith)
has_itself (one ∷ slots) zero h =
    let a = eq-eqb one.task one.task refl in
    let b = eq-eqb one.slot one.slot refl in
    ap (λ (x : Bool). (x && one.slot == one.slot) || has_slot slots one.task one.slot) a
    ∙ ap (λ (x : Bool). x || has_slot slots one.task one.slot) b
has_itself (one ∷ slots) (suc k) h =
    let q = get_or slots k no_slot in
    let e = has_itself slots k (omega arith) in
    ap (λ (x : Bool). (one.task == q.task && one.slot == q.slot) || x) e
    ∙ elim (one.task == q.task && one.slot == q.slot) as (λ (b : Bool). (b || true) ≡ true) [
      | true ↦ refl
      | false ↦ refl
    ]

pub each_may_have : (layouts : List TaskLayout) (slots : List TaskSlot) (global : ℕ) (v : Value)
    → AreSlotsOf layouts slots global → MaySlotsHave layouts global v
    → All (λ (one : TaskSlot). MaySlotHave layouts v one.task one.slot) slots
each_may_have layouts slots global v s may =
    All-from_get_or (λ (one : TaskSlot). MaySlotHave layouts v one.task one.slot) slots no_slot
    (λ k h. let one = get_or slots k no_slot in
    may one.task one.slot (sym (s.are one.task one.slot) ∙ has_itself slots k h))

-- ---- what is taken

pub task_at : (tasks : List TaskRow) (task : ℕ) (t : TaskRow) → slice_get tasks task ≡ Some t
    → slice_get (map shown tasks) task ≡ Some (shown t)
task_at tasks task t e = slice_get-map shown tasks task ∙ ap (option_map shown) e

pub lawful_row : (types : List IlType) (globals : List Value) (tasks : List TaskRow) (task : ℕ) (t : TaskRow)
    → IsImage (shown_image types globals tasks) → slice_get tasks task ≡ Some t → IsLawfulTask types t.layout
lawful_row types globals tasks task t image e =
    let shown_tasks = map shown tasks in
    at_all (IsLawfulTask types) (map (λ (u : TaskImage). u.layout) shown_tasks) task t.layout image.lawful.tasks
    (slice_get-map (λ (u : TaskImage). u.layout) shown_tasks task
    ∙ ap (option_map (λ (u : TaskImage). u.layout)) (task_at tasks task t e))

-- the row of a task has under each slot the value of its variable
pub row_is : (types : List IlType) (globals : List Value) (tasks : List TaskRow) (index : List (List TaskSlot))
    (image : ProcessImage) (task : ℕ) (t : TaskRow) → IsKept types globals tasks index
    → shown_image types globals tasks ≡ image → slice_get tasks task ≡ Some t → (slot : ℕ)
    → slice_get t.row slot ≡ option_and_then (value_of image) (variable_in (layout_of image) task slot)
row_is types globals tasks index image task t kept view e slot =
    let lawful = lawful_row types globals tasks task t kept.image e in
    let has : HasGlobals t.layout globals =
    record { types = types; typed = lawful.typed; values = kept.image.globals } in
    ap (λ (row : List Value). slice_get row slot) (kept.ready.rows task t e)
    ∙ slot_value (shown_image types globals tasks) task slot (shown t) (task_at tasks task t e) has
    ∙ ap (λ (i : ProcessImage). option_and_then (value_of i) (variable_in (layout_of i) task slot)) view
