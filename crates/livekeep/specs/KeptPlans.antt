-- Plans that begin with kept values (profile): each variable with the value that was kept under its name, where that is
-- one of its type, and each block instance with what was kept of it. A trigger never does: it is TRUE for a scan that its
-- event starts, and has no value to keep.
use Rattle.std.specs.Prelude.{◌≡◌, ℕ, List, [], ◌++◌, map, slice_get, flat_map, filter, if◌then◌else◌}
use Rattle.std.specs.Prelude.{Bool, true, false, not, Option, Some, option_map, option_to_list, unwrap_or}
use Rattle.iltypes.specs.declared.value.IlType.{IlType}
use Rattle.iltypes.specs.declared.value.Value.{Value}
use Rattle.ilblocks.specs.Stores.{Lasting}
use Rattle.ilplan.specs.declared.global.Global.{Global as GlobalVariable}
use Rattle.ilplan.specs.declared.global.Location.{Location}
use Rattle.ilplan.specs.declared.global.Location.TheVariants.{Trigger}
use Rattle.ilplan.specs.declared.slot.Slot.{Slot}
use Rattle.ilplan.specs.declared.slot.SlotOwner.{SlotOwner}
use Rattle.ilplan.specs.declared.slot.SlotOwner.TheVariants.{Global, Own}
use Rattle.ilplan.specs.Plans.{Planned, PlannedTask}
use Rattle.ilplan.specs.Beginnings.{plan_with}
use Rattle.livekeep.specs.KeptBlocks.{block_firsts, block_taken}
use Rattle.livekeep.specs.KeptFiles.{KeptEntry, entry_of, has_name}
use Rattle.livekeep.specs.KeptValues.{global_name, own_name, kept_value}

abbrev pub is_trigger : Option Location → Bool
is_trigger (Some (Trigger bus source)) = true
is_trigger _ = false

-- ---- what variables begin with

-- what a global variable begins with: its kept value, else its own first one
abbrev pub global_first : List ℕ → List KeptEntry → GlobalVariable → Value
global_first text kept g =
    if is_trigger g.location then g.initial
    else unwrap_or (kept_value kept (global_name text g) g.value_type) g.initial

-- what a slot of this type and first value begins with: that of a global variable as that does, that of a program
-- instance's variable with the kept value, else with its own first one
abbrev pub first_in : Planned → List KeptEntry → IlType → Value → SlotOwner → Value
first_in plan kept type initial (Global number) =
    unwrap_or (option_map (global_first plan.text kept) (slice_get plan.globals number)) initial
first_in plan kept type initial (Own instance name) =
    unwrap_or (kept_value kept (own_name plan.text instance name) type) initial

abbrev pub slot_first : Planned → List KeptEntry → Slot → Value
slot_first plan kept s = first_in plan kept s.value_type s.initial s.variable

abbrev pub global_firsts : Planned → List KeptEntry → List Value
global_firsts plan kept = map (global_first plan.text kept) plan.globals

abbrev pub slot_firsts : Planned → List KeptEntry → PlannedTask → List Value
slot_firsts plan kept task = map (slot_first plan kept) task.slots

-- what a task begins with
abbrev pub task_first : Planned → List KeptEntry → PlannedTask → Lasting
task_first plan kept task = record { slots = slot_firsts plan kept task; blocks = block_firsts plan kept task }

abbrev pub task_firsts : Planned → List KeptEntry → List Lasting
task_firsts plan kept = map (task_first plan kept) plan.tasks

-- the plan, but that it begins so
abbrev pub begun_plan : List KeptEntry → Planned → Planned
begun_plan kept plan = plan_with plan (global_firsts plan kept) (task_firsts plan kept)

-- the second plan is the first, but that it begins with kept values
abbrev pub IsKeptPlan : List KeptEntry → Planned → Planned → Type 0
IsKeptPlan kept old new = new ≡ begun_plan kept old

-- ---- what is left out

-- of what was kept that with which a variable of this name and type begins
abbrev pub taken_by : List KeptEntry → List ℕ → IlType → List KeptEntry
taken_by kept name type = option_to_list (option_map (entry_of name) (kept_value kept name type))

abbrev pub global_taken : List ℕ → List KeptEntry → GlobalVariable → List KeptEntry
global_taken text kept g =
    if is_trigger g.location then [] else taken_by kept (global_name text g) g.value_type

-- the variable in a slot of this type: a global one is none of a program instance
abbrev pub taken_in : List ℕ → List KeptEntry → IlType → SlotOwner → List KeptEntry
taken_in text kept type (Global number) = []
taken_in text kept type (Own instance name) = taken_by kept (own_name text instance name) type

abbrev pub slot_taken : List ℕ → List KeptEntry → Slot → List KeptEntry
slot_taken text kept s = taken_in text kept s.value_type s.variable

abbrev pub task_taken : Planned → List KeptEntry → PlannedTask → List KeptEntry
task_taken plan kept task =
    flat_map (slot_taken plan.text kept) task.slots ++ flat_map (block_taken plan kept) task.blocks

-- of what was kept that with which the variables and block instances of the plan begin
abbrev pub taken : List KeptEntry → Planned → List KeptEntry
taken kept plan = flat_map (global_taken plan.text kept) plan.globals ++ flat_map (task_taken plan kept) plan.tasks

-- the kept values with which nothing begins, in their order
abbrev pub left_out_of : List KeptEntry → Planned → List KeptEntry
left_out_of kept plan = filter (λ entry. not (has_name (taken kept plan) entry.name)) kept
