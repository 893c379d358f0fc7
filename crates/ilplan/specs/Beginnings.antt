-- Plans that begin with other values: the same, but for what their variables and block instances have before the first
-- scan (profile).
use Rattle.std.specs.Prelude.{◌≡◌, ℕ, List, [], ◌∷◌, length, map, slice_get, Some, ⊤}
use Rattle.std.specs.List.{AllZip}
use Rattle.iltypes.specs.declared.value.Value.{Value}
use Rattle.iltypes.specs.Values.{AreOf}
use Rattle.ilblocks.specs.Calls.{IsBlockOf}
use Rattle.ilblocks.specs.Stores.{Lasting}
use Rattle.ilplan.specs.declared.global.Global.{Global as GlobalVariable}
use Rattle.ilplan.specs.declared.slot.Slot.{Slot}
use Rattle.ilplan.specs.declared.slot.SlotOwner.{SlotOwner}
use Rattle.ilplan.specs.declared.slot.SlotOwner.TheVariants.{Global, Own}
use Rattle.ilplan.specs.Plans.{Planned, PlannedTask, kinds_of, types_of}

-- each of these with what stands at its place in the second list, as far as that goes
abbrev pub each_with : {X Y : Type 0} → (X → Y → X) → List X → List Y → List X
each_with put [] ys = []
each_with put (x ∷ xs) [] = x ∷ xs
each_with put (x ∷ xs) (y ∷ ys) = put x y ∷ each_with put xs ys

abbrev pub global_with : GlobalVariable → Value → GlobalVariable
global_with global value = record global { initial = value }

abbrev pub slot_with : Slot → Value → Slot
slot_with slot value = record slot { initial = value }

-- the task, but that its slots begin with these values, and its block instances as these
abbrev pub task_with : PlannedTask → Lasting → PlannedTask
task_with task firsts = record task { slots = each_with slot_with task.slots firsts.slots; states = firsts.blocks }

-- the plan, but that its global variables begin with these values, and each task so
abbrev pub plan_with : Planned → List Value → List Lasting → Planned
plan_with plan globals firsts =
    record plan {
      globals = each_with global_with plan.globals globals;
      tasks = each_with task_with plan.tasks firsts;
    }

-- ---- which they may be

-- where the global variables begin with these values, a slot of a global variable begins as that does
abbrev pub BeginsAs : List Value → SlotOwner → Value → Type 0
BeginsAs globals (Global number) value = slice_get globals number ≡ Some value
BeginsAs globals (Own instance name) value = ⊤

-- a value of its type for each slot of a task, and for each of its block instances what one of its kind keeps
pub record MayBeginTask (buses : ℕ) (globals : List Value) (task : PlannedTask) (firsts : Lasting) : Type 0 where
  pub typed : AreOf firsts.slots (types_of task)
  pub same : AllZip (λ slot value. BeginsAs globals slot.variable value) task.slots firsts.slots
  pub blocks : AllZip (IsBlockOf buses) firsts.blocks (kinds_of task)

-- a value of its type for each global variable, and what each task may begin with
pub record MayBegin (plan : Planned) (globals : List Value) (firsts : List Lasting) : Type 0 where
  pub typed : AreOf globals (map (λ g. g.value_type) plan.globals)
  pub tasks : AllZip (MayBeginTask plan.buses globals) plan.tasks firsts

-- ---- what lasts of a task

-- a value for each slot of the task, and what each of its block instances keeps
pub record HasEach (task : PlannedTask) (lasting : Lasting) : Type 0 where
  pub values : length lasting.slots ≡ length task.slots
  pub blocks : length lasting.blocks ≡ length task.blocks
