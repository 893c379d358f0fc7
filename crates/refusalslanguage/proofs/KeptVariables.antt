-- With which values variables begin, and what is kept of them.
use Rattle.std.proofs.Common.{◌≡◌, ◌∙◌, ℕ, pos, Bool, true, false, List, [], ◌∷◌, ◌++◌, Option, Some, None, length, map, refl, sym, ap}
use Rattle.std.specs.Prelude.{bytes_eq, filter, find, flat_map, if◌then◌else◌, not, option_map, option_to_list, slice_get}
use Rattle.std.specs.Prelude.{unwrap_or}
use Rattle.std.specs.List.{AllZip}
use Rattle.std.proofs.lemmas.List.{append-nil}
use Rattle.std.proofs.lemmas.Slice.Eq.{bytes_eq-Decides}
use Rattle.iltypes.specs.declared.value.IlType.{IlType}
use Rattle.iltypes.specs.declared.value.IlType.TheVariants as types
use Rattle.iltypes.specs.declared.value.Value.{Value}
use Rattle.iltypes.specs.declared.value.Value.TheVariants as values
use Rattle.ilsource.specs.declared.name.Name.{Name}
use Rattle.ilplan.specs.declared.global.Global.{Global as GlobalVariable}
use Rattle.ilplan.specs.declared.global.Location.{Location}
use Rattle.ilplan.specs.declared.global.Location.TheVariants.{Count}
use Rattle.ilplan.specs.declared.slot.Slot.{Slot}
use Rattle.ilplan.specs.declared.slot.SlotOwner.{SlotOwner}
use Rattle.ilplan.specs.declared.slot.SlotOwner.TheVariants.{Global, Own}
use Rattle.ilplan.specs.Plans.{Planned, PlannedTask}
use Rattle.livekeep.specs.KeptFiles.{KeptEntry, entry_of, has_name}
use Rattle.ilblocks.specs.Calls.{Block, at_first}
use Rattle.ilblocks.specs.Stores.{Lasting}
use Rattle.ilplan.specs.Beginnings.{HasEach}
use Rattle.ilplan.specs.declared.instance.FunctionBlock.{FunctionBlock}
use Rattle.livekeep.specs.KeptBlocks.{block_entries, block_first, block_firsts, kept_block}
use Rattle.livekeep.specs.KeptPlans.{first_in, global_first, global_firsts, global_taken, is_trigger, left_out_of}
use Rattle.livekeep.specs.KeptPlans.{slot_first, slot_firsts, taken_by, task_first, task_firsts, task_taken}
use Rattle.livekeep.specs.KeptStates.{entries_by, entries_of, global_entries, instance_entries, slot_entries}
use Rattle.livekeep.specs.KeptStates.{task_entries, tasks_entries}
use Rattle.livekeep.specs.KeptValues.{fitting, global_name, kept_value, own_name}

-- the only kept value is TRUE, and is that of this name
kept_true : (entry : KeptEntry) (name : List ℕ) (type : IlType) → entry.name ≡ name → type ≡ types.Bool
    → entry.value ≡ values.Bool true → kept_value (entry ∷ []) name type ≡ Some (values.Bool true)
kept_true entry name type named kind lit = rw (named, (bytes_eq-Decides name name).1 refl, kind, lit) refl

begins_true : (text : List ℕ) (g : GlobalVariable) (entry : KeptEntry) → g.location ≡ None
    → g.value_type ≡ types.Bool → entry.name ≡ global_name text g → entry.value ≡ values.Bool true
    → global_first text (entry ∷ []) g ≡ values.Bool true
begins_true text g entry nowhere kind named lit =
    ap (λ (l : Option Location). if is_trigger l then g.initial
    else unwrap_or (kept_value (entry ∷ []) (global_name text g) g.value_type) g.initial) nowhere
    ∙ ap (λ (v : Option Value). unwrap_or v g.initial) (kept_true entry (global_name text g) g.value_type named kind lit)

pub firsts_true : (plan : Planned) (kept : List KeptEntry) (g : GlobalVariable) (entry : KeptEntry)
    → plan.globals ≡ g ∷ [] → kept ≡ entry ∷ [] → g.location ≡ None → g.value_type ≡ types.Bool
    → entry.name ≡ global_name plan.text g → entry.value ≡ values.Bool true
    → global_firsts plan kept ≡ values.Bool true ∷ []
firsts_true plan kept g entry one only nowhere kind named lit =
    ap (λ (gs : List GlobalVariable). map (global_first plan.text kept) gs) one
    ∙ (ap (λ (k : List KeptEntry). global_first plan.text k g ∷ []) only
    ∙ ap (λ (v : Value). v ∷ []) (begins_true plan.text g entry nowhere kind named lit))

-- what the only slot of the only task begins with
only_slot : (plan : Planned) (kept : List KeptEntry) (task : PlannedTask) (slot : Slot) → plan.tasks ≡ task ∷ []
    → task.slots ≡ slot ∷ [] → map (λ state. state.slots) (task_firsts plan kept) ≡ (slot_first plan kept slot ∷ []) ∷ []
only_slot plan kept task slot one own =
    ap (λ (tasks : List PlannedTask). map (λ (state : Lasting). state.slots) (map (task_first plan kept) tasks)) one
    ∙ ap (λ (slots : List Slot). map (slot_first plan kept) slots ∷ []) own

pub global_slot : (plan : Planned) (kept : List KeptEntry) (g : GlobalVariable) (task : PlannedTask) (slot : Slot)
    (entry : KeptEntry) → plan.globals ≡ g ∷ [] → plan.tasks ≡ task ∷ [] → task.slots ≡ slot ∷ []
    → slot.variable ≡ Global 0 → kept ≡ entry ∷ [] → g.location ≡ None → g.value_type ≡ types.Bool
    → entry.name ≡ global_name plan.text g → entry.value ≡ values.Bool true
    → map (λ state. state.slots) (task_firsts plan kept) ≡ (values.Bool true ∷ []) ∷ []
global_slot plan kept g task slot entry one tasks own variable only nowhere kind named lit =
    only_slot plan kept task slot tasks own
    ∙ ap (λ (v : Value). (v ∷ []) ∷ [])
    (ap (λ (owner : SlotOwner). first_in plan kept slot.value_type slot.initial owner) variable
    ∙ (ap (λ (gs : List GlobalVariable). unwrap_or (option_map (global_first plan.text kept) (slice_get gs 0)) slot.initial) one
    ∙ (ap (λ (k : List KeptEntry). global_first plan.text k g) only
    ∙ begins_true plan.text g entry nowhere kind named lit)))

pub own_slot : (plan : Planned) (kept : List KeptEntry) (task : PlannedTask) (slot : Slot) (instance name : Name)
    (entry : KeptEntry) → plan.tasks ≡ task ∷ [] → task.slots ≡ slot ∷ [] → slot.variable ≡ Own instance name
    → slot.value_type ≡ types.Bool → kept ≡ entry ∷ [] → entry.name ≡ own_name plan.text instance name
    → entry.value ≡ values.Bool true
    → map (λ state. state.slots) (task_firsts plan kept) ≡ (values.Bool true ∷ []) ∷ []
own_slot plan kept task slot instance name entry tasks own variable kind only named lit =
    only_slot plan kept task slot tasks own
    ∙ ap (λ (v : Value). (v ∷ []) ∷ [])
    (ap (λ (owner : SlotOwner). first_in plan kept slot.value_type slot.initial owner) variable
    ∙ (ap (λ (k : List KeptEntry). unwrap_or (kept_value k (own_name plan.text instance name) slot.value_type) slot.initial) only
    ∙ ap (λ (v : Option Value). unwrap_or v slot.initial)
    (kept_true entry (own_name plan.text instance name) slot.value_type named kind lit)))

-- ---- what a block instance begins with

only_block : (plan : Planned) (kept : List KeptEntry) (task : PlannedTask) (block : FunctionBlock)
    → plan.tasks ≡ task ∷ [] → task.blocks ≡ block ∷ []
    → map (λ state. state.blocks) (task_firsts plan kept) ≡ (block_first plan kept block ∷ []) ∷ []
only_block plan kept task block one own =
    ap (λ (tasks : List PlannedTask). map (λ (state : Lasting). state.blocks) (map (task_first plan kept) tasks)) one
    ∙ ap (λ (blocks : List FunctionBlock). map (block_first plan kept) blocks ∷ []) own

pub kept_instance : (plan : Planned) (kept : List KeptEntry) (task : PlannedTask) (block : FunctionBlock) (state : Block)
    → plan.tasks ≡ task ∷ [] → task.blocks ≡ block ∷ [] → kept_block plan kept block ≡ Some state
    → map (λ state. state.blocks) (task_firsts plan kept) ≡ (state ∷ []) ∷ []
kept_instance plan kept task block state one own is =
    only_block plan kept task block one own
    ∙ ap (λ (s : Option Block). (unwrap_or s (at_first block.kind) ∷ []) ∷ []) is

pub new_instance : (plan : Planned) (kept : List KeptEntry) (task : PlannedTask) (block : FunctionBlock)
    → plan.tasks ≡ task ∷ [] → task.blocks ≡ block ∷ [] → kept_block plan kept block ≡ None
    → map (λ state. state.blocks) (task_firsts plan kept) ≡ (at_first block.kind ∷ []) ∷ []
new_instance plan kept task block one own is =
    only_block plan kept task block one own
    ∙ ap (λ (s : Option Block). (unwrap_or s (at_first block.kind) ∷ []) ∷ []) is

-- ---- what is left out

not_kept : (entry : KeptEntry) (name : List ℕ) → entry.value ≡ values.Int (pos 0)
    → kept_value (entry ∷ []) name types.Bool ≡ None
not_kept entry name number = cases (bytes_eq entry.name name)
  where
    cases : (found : Bool)
        → fitting types.Bool (option_map (λ (e : KeptEntry). e.value) (if found then Some entry else None)) ≡ None
    cases true = ap (λ (v : Value). fitting types.Bool (Some v)) number
    cases false = refl

none_taken : (text : List ℕ) (g : GlobalVariable) (entry : KeptEntry) → g.location ≡ None
    → g.value_type ≡ types.Bool → entry.value ≡ values.Int (pos 0) → global_taken text (entry ∷ []) g ≡ []
none_taken text g entry nowhere kind number =
    let name = global_name text g in
    ap (λ (l : Option Location). if is_trigger l then [] else taken_by (entry ∷ []) name g.value_type) nowhere
    ∙ (ap (λ (type : IlType). taken_by (entry ∷ []) name type) kind
    ∙ ap (λ (v : Option Value). option_to_list (option_map (entry_of name) v)) (not_kept entry name number))

-- the only kept value is a number, and the only variable is TRUE or FALSE
pub left_out : (plan : Planned) (kept : List KeptEntry) (g : GlobalVariable) (entry : KeptEntry)
    → plan.globals ≡ g ∷ [] → plan.tasks ≡ [] → kept ≡ entry ∷ [] → g.location ≡ None → g.value_type ≡ types.Bool
    → entry.value ≡ values.Int (pos 0) → left_out_of kept plan ≡ entry ∷ []
left_out plan kept g entry one idle only nowhere kind number =
    ap (λ (k : List KeptEntry). left_out_of k plan) only
    ∙ ap (λ (taken : List KeptEntry). filter (λ e. not (has_name taken e.name)) (entry ∷ []))
    (ap (λ (gs : List GlobalVariable). flat_map (global_taken plan.text (entry ∷ [])) gs
    ++ flat_map (task_taken plan (entry ∷ [])) plan.tasks) one
    ∙ (ap (λ (tasks : List PlannedTask). (global_taken plan.text (entry ∷ []) g ++ [])
    ++ flat_map (task_taken plan (entry ∷ [])) tasks) idle
    ∙ ap (λ (taken : List KeptEntry). (taken ++ []) ++ []) (none_taken plan.text g entry nowhere kind number)))

-- ---- what is kept

-- what lasts of each task has what the task has, where there is no task, and where there is one
pub none_zip : (tasks : List PlannedTask) (states : List Lasting) → tasks ≡ [] → states ≡ []
    → AllZip HasEach tasks states
none_zip tasks states none nothing = rw (none, nothing) tt

pub one_zip : (tasks : List PlannedTask) (states : List Lasting) (task : PlannedTask) (state : Lasting)
    → tasks ≡ task ∷ [] → states ≡ state ∷ [] → HasEach task state → AllZip HasEach tasks states
one_zip tasks states task state one are has = rw (one, are) (has, tt)

pub count_kept : (plan : Planned) (g : GlobalVariable) (value : Value) (globals : List Value) (states : List Lasting)
    → plan.globals ≡ g ∷ [] → plan.tasks ≡ [] → g.location ≡ Some (Count 0 0) → globals ≡ value ∷ []
    → entries_of plan globals states ≡ entry_of (global_name plan.text g) value ∷ []
count_kept plan g value globals states one idle located are =
    ap (λ (gs : List GlobalVariable). global_entries plan.text gs globals ++ tasks_entries plan.text plan.tasks states) one
    ∙ (ap (λ (vs : List Value). global_entries plan.text (g ∷ []) vs ++ tasks_entries plan.text plan.tasks states) are
    ∙ (ap (λ (tasks : List PlannedTask). global_entries plan.text (g ∷ []) (value ∷ [])
    ++ tasks_entries plan.text tasks states) idle
    ∙ ap (λ (l : Option Location). ((if is_trigger l then [] else entry_of (global_name plan.text g) value ∷ []) ++ []) ++ [])
    located))

-- of a plan without global variables what lasts of its only task is kept
only_task : (plan : Planned) (task : PlannedTask) (state : Lasting) (globals : List Value) (states : List Lasting)
    → plan.globals ≡ [] → plan.tasks ≡ task ∷ [] → states ≡ state ∷ []
    → entries_of plan globals states ≡ task_entries plan.text task state ++ []
only_task plan task state globals states none tasks are =
    ap (λ (gs : List GlobalVariable). global_entries plan.text gs globals ++ tasks_entries plan.text plan.tasks states) none
    ∙ (ap (λ (ts : List PlannedTask). tasks_entries plan.text ts states) tasks
    ∙ ap (λ (ss : List Lasting). tasks_entries plan.text (task ∷ []) ss) are)

pub own_kept : (plan : Planned) (task : PlannedTask) (slot : Slot) (instance name : Name) (value : Value)
    (globals : List Value) (states : List Lasting) → plan.globals ≡ [] → plan.tasks ≡ task ∷ []
    → task.slots ≡ slot ∷ [] → task.blocks ≡ [] → slot.variable ≡ Own instance name
    → states ≡ record { slots = value ∷ []; blocks = [] } ∷ []
    → entries_of plan globals states ≡ entry_of (own_name plan.text instance name) value ∷ []
own_kept plan task slot instance name value globals states none tasks own idle variable are =
    only_task plan task (record { slots = value ∷ []; blocks = [] }) globals states none tasks are
    ∙ (ap (λ (ss : List Slot). (slot_entries plan.text ss (value ∷ []) ++ instance_entries plan.text task.blocks []) ++ []) own
    ∙ (ap (λ (bs : List FunctionBlock). ((entries_by plan.text slot.variable value ++ [])
    ++ instance_entries plan.text bs []) ++ []) idle
    ∙ ap (λ (owner : SlotOwner). ((entries_by plan.text owner value ++ []) ++ []) ++ []) variable))

pub instance_kept : (plan : Planned) (task : PlannedTask) (block : FunctionBlock) (state : Block)
    (globals : List Value) (states : List Lasting) → plan.globals ≡ [] → plan.tasks ≡ task ∷ []
    → task.slots ≡ [] → task.blocks ≡ block ∷ [] → states ≡ record { slots = []; blocks = state ∷ [] } ∷ []
    → entries_of plan globals states ≡ block_entries plan.text block state
instance_kept plan task block state globals states none tasks own one are =
    only_task plan task (record { slots = []; blocks = state ∷ [] }) globals states none tasks are
    ∙ (ap (λ (ss : List Slot). (slot_entries plan.text ss [] ++ instance_entries plan.text task.blocks (state ∷ [])) ++ []) own
    ∙ (ap (λ (bs : List FunctionBlock). instance_entries plan.text bs (state ∷ []) ++ []) one
    ∙ (append-nil _ ∙ append-nil (block_entries plan.text block state))))
