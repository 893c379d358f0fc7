-- A value that is written into slots of tasks, one after another.
use Rattle.std.proofs.Common.{◌≡◌, ◌≢◌, ℕ, zero, suc, ◌+◌, ◌<◌, List, [], ◌∷◌, drop, length, get_or, Bool, true, false}
use Rattle.std.proofs.Common.{cond, Option, Some, refl, sym, ap, ◌∙◌, arith, inl, inr}
use Rattle.std.specs.Prelude.{slice_get, slice_set, option_map, ◌==◌}
use Rattle.std.proofs.lemmas.Bool.{cases_eq, eq-eqb, eqb-true}
use Rattle.std.proofs.lemmas.List.{drop_more, length-map}
use Rattle.std.proofs.lemmas.Option.{slice_get_within, slice_get-get_or}
use Rattle.iltypes.specs.declared.value.Value.{Value}
use Rattle.ilverify.specs.Listings.{lasting_types}
use Rattle.ilmachine.specs.declared.slots.TaskSlot.{TaskSlot}
use Rattle.ilmachine.specs.Images.{TaskLayout}
use Rattle.ilmachine.specs.Snapshots.{MayHave}
use Rattle.ilmachine.specs.TaskRows.{TaskRow}
use Rattle.ilmachine.specs.RowSteps.{row_with, task_with, layouts_of, MaySlotHave}
use Rattle.ilmachine.proofs.ImagePlaces.{there}
use Rattle.ilmachine.proofs.Commits.{get_set_same, get_set_other}

-- ---- whether two numbers are one

pub neq-eqb : (a b : ℕ) → a ≢ b → (a == b) ≡ false
neq-eqb a b h =
    elim (a == b) as (λ (t : Bool). (a == b) ≡ t → t ≡ false) [
      | true ↦ λ e. absurd (h (eqb-true a b e))
      | false ↦ λ e. refl
    ] refl

pub sucs : (k s : ℕ) → (k == s) ≡ (suc k == suc s)
sucs k s =
    elim (cases_eq k s) [
      | inl e ↦ eq-eqb k s e ∙ sym (eq-eqb (suc k) (suc s) (ap suc e))
      | inr n ↦ neq-eqb k s n ∙ sym (neq-eqb (suc k) (suc s) (λ q. n (cc)))
    ]

-- what an index reads
pub read_there : {A : Type 0} (xs : List A) (place : ℕ) (read : A) → place < length xs → read ≡ get_or xs place read
    → slice_get xs place ≡ Some read
read_there xs place read h r = slice_get-get_or xs place read h ∙ ap Some (sym r)

-- ---- one slot, and then the others

abbrev put_in : TaskRow → ℕ → Value → TaskRow
put_in t slot value = record t { row = slice_set t.row slot value }

with_more : (one : TaskSlot) (slots : List TaskSlot) (value : Value) (tasks : List TaskRow) (t : TaskRow) (task : ℕ)
    → slice_get tasks one.task ≡ Some t
    → option_map (task_with slots value task) (slice_get (slice_set tasks one.task (put_in t one.slot value)) task)
    ≡ option_map (task_with (one ∷ slots) value task) (slice_get tasks task)
with_more one slots value tasks t task e =
    let after = slice_set tasks one.task (put_in t one.slot value) in
    elim (cases_eq one.task task) [
      | inl same ↦
          let found : slice_get tasks task ≡ Some t = ap (slice_get tasks) (sym same) ∙ e in
          let set : slice_get after task ≡ Some (put_in t one.slot value) =
          ap (slice_get after) (sym same) ∙ get_set_same tasks one.task (put_in t one.slot value) t e in
          ap (option_map (task_with slots value task)) set
          ∙ ap (λ (b : Bool). Some (record t {
            row = row_with slots value task (cond b (slice_set t.row one.slot value) t.row);
          })) (sym (eq-eqb one.task task same))
          ∙ sym (ap (option_map (task_with (one ∷ slots) value task)) found)
      | inr other ↦
          ap (option_map (task_with slots value task))
          (get_set_other tasks one.task task (put_in t one.slot value) other)
          ∙ ap (λ (b : Bool). option_map (λ (u : TaskRow). record u {
            row = row_with slots value task (cond b (slice_set u.row one.slot value) u.row);
          }) (slice_get tasks task)) (sym (neq-eqb one.task task other))
    ]

pub same_layouts : (tasks : List TaskRow) (task : ℕ) (t u : TaskRow) → slice_get tasks task ≡ Some t
    → u.layout ≡ t.layout → layouts_of (slice_set tasks task u) ≡ layouts_of tasks
same_layouts [] task t u e l = refl
same_layouts (x ∷ tasks) zero t u e l =
    let q : x ≡ t = cc in
    ap (λ (y : TaskLayout). y ∷ layouts_of tasks) (l ∙ ap (λ (v : TaskRow). v.layout) (sym q))
same_layouts (x ∷ tasks) (suc task) t u e l =
    ap (λ (ls : List TaskLayout). x.layout ∷ ls) (same_layouts tasks task t u e l)

abbrev pub no_slot : TaskSlot
no_slot = record { task = 0; slot = 0 }

-- a task in which there is a slot to write
pub task_there : (tasks before : List TaskRow) (value : Value) (one : TaskSlot) (read : TaskRow)
    → layouts_of tasks ≡ layouts_of before → MaySlotHave (layouts_of before) value one.task one.slot
    → read ≡ get_or tasks one.task read → slice_get tasks one.task ≡ Some read
task_there tasks before value one read same may r =
    let t = there (slice_get (layouts_of before) one.task)
    (λ (t : TaskLayout). MayHave (lasting_types t.verified.code) one.slot value) may in
    let within = slice_get_within (layouts_of before) one.task t.of t.is in
    let n = ap length same in
    let m = length-map tasks (λ (t : TaskRow). t.layout) in
    read_there tasks one.task read (omega arith) r

-- one turn of the loop
pub turn : (slots : List TaskSlot) (i : ℕ) (value : Value) (tasks : List TaskRow) (t u : TaskRow) (task : ℕ)
    (all : Option TaskRow) → i < length slots → slice_get tasks (get_or slots i no_slot).task ≡ Some t
    → u ≡ put_in t (get_or slots i no_slot).slot value
    → option_map (task_with (drop i slots) value task) (slice_get tasks task) ≡ all
    → option_map (task_with (drop (i + 1) slots) value task)
    (slice_get (slice_set tasks (get_or slots i no_slot).task u) task) ≡ all
turn slots i value tasks t u task all within e q was =
    let one = get_or slots i no_slot in
    let rest = drop (i + 1) slots in
    ap (λ (x : TaskRow). option_map (task_with rest value task) (slice_get (slice_set tasks one.task x) task)) q
    ∙ with_more one rest value tasks t task e
    ∙ sym (ap (λ (ss : List TaskSlot). option_map (task_with ss value task) (slice_get tasks task))
    (drop_more slots i no_slot within)) ∙ was
