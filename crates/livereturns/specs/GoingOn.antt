-- When a house that is stopped and started again begins with just the state that was written (profile).
use Rattle.std.specs.Prelude.{◌≡◌, ◌≤◌, ℕ, List, Some, bytes_eq, false, slice_get, true}
use Rattle.std.specs.List.{AllZip, IsDistinct}
use Rattle.iltypes.specs.declared.value.Value.{Value}
use Rattle.ilblocks.specs.Stores.{Lasting}
use Rattle.ilplan.specs.declared.global.Global.{Global}
use Rattle.ilplan.specs.Beginnings.{MayBegin}
use Rattle.ilplan.specs.Plans.{Planned, PlannedTask}
use Rattle.plantevents.specs.declared.event.Event.{Event}
use Rattle.plantevents.specs.Histories.{moment}
use Rattle.plantevents.specs.Legal.{AreLegal}
use Rattle.plantevents.specs.Plants.{Plant, stores_global}
use Rattle.livekeep.specs.KeptFiles.{most_number}
use Rattle.livekeep.specs.KeptPlans.{is_trigger}
use Rattle.livekeep.specs.KeptStates.{entries_of}
use Rattle.livekeep.specs.Returns.{HasKeptStart}
use Rattle.livereturns.specs.Keeping.{AreGlobals, AreLasting}

-- each timer begins with a start that a file may have, and every other block with 0
abbrev pub BeginsWithStarts : Planned → Type 0
BeginsWithStarts plan =
    (number : ℕ) (task : PlannedTask) → slice_get plan.tasks number ≡ Some task
    → AllZip HasKeptStart task.blocks task.states

-- no task stores to a trigger
abbrev pub LeavesTriggers : Planned → Type 0
LeavesTriggers plan =
    (number : ℕ) (g : Global) → slice_get plan.globals number ≡ Some g → is_trigger g.location ≡ true
    → (place : ℕ) (task : PlannedTask) → slice_get plan.tasks place ≡ Some task → stores_global task number ≡ false

-- After a legal history, whose moments are those of a file, the plant has these values, and this lasts of its tasks. Of
-- the plan: timers begin with starts of a file, and no task stores to a trigger. And two premises, which follow from
-- its text and are not shown here: no two things are kept under one name, and each value is of its type.
pub record MayGoOn (p : Plant) (h : List Event) (globals : List Value) (tasks : List Lasting) : Type 0 where
  pub legal : AreLegal p h
  pub early : moment h ≤ most_number
  pub values : AreGlobals p h globals
  pub lasting : AreLasting p h tasks
  pub begins : BeginsWithStarts p.plan
  pub triggers : LeavesTriggers p.plan
  pub distinct : IsDistinct (λ one other. bytes_eq one.name other.name) (entries_of p.plan globals tasks)
  pub typed : MayBegin p.plan globals tasks
