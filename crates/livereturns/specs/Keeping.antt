-- What is kept of a plant (profile): what its variables and block instances have after all that happened so far.
use Rattle.std.specs.Prelude.{◌≡◌, ℕ, List, length, slice_get, Some, option_and_then}
use Rattle.iltypes.specs.declared.value.Value.{Value}
use Rattle.ilblocks.specs.Stores.{Lasting}
use Rattle.ilmachine.specs.Images.{Global, variable_in}
use Rattle.plantevents.specs.declared.event.Event.{Event}
use Rattle.plantevents.specs.Plants.{Plant, layout}
use Rattle.plantevents.specs.Variables.{blocks, value}
use Rattle.livekeep.specs.KeptFiles.{KeptEntry}
use Rattle.livekeep.specs.KeptStates.{entries_of}

-- the value of each global variable, in the plan's order
pub record AreGlobals (p : Plant) (h : List Event) (globals : List Value) : Type 0 where
  pub count : length globals ≡ length p.plan.globals
  pub each : (number : ℕ) (v : Value) → slice_get globals number ≡ Some v → value p (Global number) h ≡ Some v

-- what lasts of the task of this number: the value of the variable in each slot, and its block instances
pub record IsLasting (p : Plant) (h : List Event) (task : ℕ) (lasting : Lasting) : Type 0 where
  pub values : (slot : ℕ) → slice_get lasting.slots slot
      ≡ option_and_then (λ v. value p v h) (variable_in (layout p) task slot)
  pub blocks : blocks p task h ≡ Some lasting.blocks

-- what lasts of each task, in the plan's order
pub record AreLasting (p : Plant) (h : List Event) (tasks : List Lasting) : Type 0 where
  pub count : length tasks ≡ length p.plan.tasks
  pub each : (task : ℕ) (lasting : Lasting) → slice_get tasks task ≡ Some lasting → IsLasting p h task lasting

-- what is kept of the plant, where this lasts of its tasks
pub record AreKept (p : Plant) (h : List Event) (tasks : List Lasting) (kept : List KeptEntry) : Type 0 where
  pub globals : List Value
  pub values : AreGlobals p h globals
  pub entries : kept ≡ entries_of p.plan globals tasks
