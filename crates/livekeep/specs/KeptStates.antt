-- What is kept of a building (profile): the value of each global variable but the triggers, in the plan's order, and
-- then, task by task, that of each variable of a program instance, and what each block instance keeps.
use Rattle.std.specs.Prelude.{ℕ, List, [], ◌∷◌, ◌++◌, if◌then◌else◌}
use Rattle.iltypes.specs.declared.value.Value.{Value}
use Rattle.ilblocks.specs.Calls.{Block}
use Rattle.ilblocks.specs.Stores.{Lasting}
use Rattle.ilplan.specs.declared.global.Global.{Global as GlobalVariable}
use Rattle.ilplan.specs.declared.instance.FunctionBlock.{FunctionBlock}
use Rattle.ilplan.specs.declared.slot.Slot.{Slot}
use Rattle.ilplan.specs.declared.slot.SlotOwner.{SlotOwner}
use Rattle.ilplan.specs.declared.slot.SlotOwner.TheVariants.{Global, Own}
use Rattle.ilplan.specs.Plans.{Planned, PlannedTask}
use Rattle.livekeep.specs.KeptBlocks.{block_entries}
use Rattle.livekeep.specs.KeptFiles.{KeptEntry, entry_of}
use Rattle.livekeep.specs.KeptPlans.{is_trigger}
use Rattle.livekeep.specs.KeptValues.{global_name, own_name}

-- what is kept of a global variable that has this value
abbrev pub entries_for : List ℕ → GlobalVariable → Value → List KeptEntry
entries_for text g value = if is_trigger g.location then [] else entry_of (global_name text g) value ∷ []

abbrev pub global_entries : List ℕ → List GlobalVariable → List Value → List KeptEntry
global_entries text (g ∷ globals) (value ∷ values) = entries_for text g value ++ global_entries text globals values
global_entries text _ _ = []

-- of the variable in a slot: that of a global one is kept already
abbrev pub entries_by : List ℕ → SlotOwner → Value → List KeptEntry
entries_by text (Global number) value = []
entries_by text (Own instance name) value = entry_of (own_name text instance name) value ∷ []

abbrev pub slot_entries : List ℕ → List Slot → List Value → List KeptEntry
slot_entries text (s ∷ slots) (value ∷ values) = entries_by text s.variable value ++ slot_entries text slots values
slot_entries text _ _ = []

-- what each of these block instances keeps
abbrev pub instance_entries : List ℕ → List FunctionBlock → List Block → List KeptEntry
instance_entries text (b ∷ blocks) (state ∷ states) = block_entries text b state ++ instance_entries text blocks states
instance_entries text _ _ = []

abbrev pub task_entries : List ℕ → PlannedTask → Lasting → List KeptEntry
task_entries text task lasting =
    slot_entries text task.slots lasting.slots ++ instance_entries text task.blocks lasting.blocks

abbrev pub tasks_entries : List ℕ → List PlannedTask → List Lasting → List KeptEntry
tasks_entries text (task ∷ tasks) (lasting ∷ more) = task_entries text task lasting ++ tasks_entries text tasks more
tasks_entries text _ _ = []

-- what is kept where the global variables of the plan have these values, and this lasts of each task
abbrev pub entries_of : Planned → List Value → List Lasting → List KeptEntry
entries_of plan globals lasting =
    global_entries plan.text plan.globals globals ++ tasks_entries plan.text plan.tasks lasting
