-- What a task means does not hang on what its variables begin with.
use Rattle.std.proofs.Common.{◌≡◌, ℕ, zero, suc, List, [], ◌∷◌, map, Option, Some, refl, sym, ap, ◌∙◌}
use Rattle.std.specs.Prelude.{slice_get}
use Rattle.iltypes.specs.declared.value.IlType.{IlType}
use Rattle.ilsource.specs.Passes.{scan}
use Rattle.ilblocks.specs.Stores.{Lasting, Store}
use Rattle.ilplan.specs.declared.slot.Slot.{Slot}
use Rattle.ilplan.specs.Functions.{PlannedFunction}
use Rattle.ilplan.specs.PlanMeaning.{number_same, places_of, functions_given, plan_scan}
use Rattle.ilplan.specs.Plans.{PlannedTask, kinds_of, types_of}
use Rattle.ilplan.specs.Beginnings.{each_with, slot_with, task_with}
use Rattle.ilplan.proofs.Beginnings.{map_with}

-- a scan of a task with slots of these types
abbrev pub scan_by : ℕ → List PlannedFunction → PlannedTask → List IlType → Store → Option Store
scan_by buses functions task types store =
    scan number_same (places_of (record {
      buses = buses;
      slots = types;
      kinds = kinds_of task;
    }) (functions_given functions)) (map (λ i. i.lines) task.instances) store

pub same_types : (task : PlannedTask) (begins : Lasting) → types_of (task_with task begins) ≡ types_of task
same_types task begins = map_with slot_with (λ (s : Slot). s.value_type) (λ s v. refl) task.slots begins.slots

pub same_scan : (buses : ℕ) (functions : List PlannedFunction) (task : PlannedTask) (begins : Lasting) (store : Store)
    → plan_scan buses functions (task_with task begins) store ≡ plan_scan buses functions task store
same_scan buses functions task begins store =
    ap (λ (types : List IlType). scan_by buses functions task types store) (same_types task begins)

-- a task that may begin with other values: the task that it was, which means the same
pub record IsTaskBegun (tasks : List PlannedTask) (number : ℕ) (begun : PlannedTask) : Type 0 where
  pub task : PlannedTask
  pub there : slice_get tasks number ≡ Some task
  pub means : (buses : ℕ) (functions : List PlannedFunction) (store : Store)
      → plan_scan buses functions begun store ≡ plan_scan buses functions task store

pub begun_task : (tasks : List PlannedTask) (begins : List Lasting) (number : ℕ) (begun : PlannedTask)
    → slice_get (each_with task_with tasks begins) number ≡ Some begun → IsTaskBegun tasks number begun
begun_task [] begins number begun is = absurd (cc)
begun_task (task ∷ tasks) [] number begun is =
    record { task = begun; there = is; means = λ buses functions store. refl }
begun_task (task ∷ tasks) (first ∷ begins) zero begun is =
    let same : task_with task first ≡ begun = cc in
    record {
      task = task;
      there = refl;
      means = λ buses functions store.
          ap (λ (t : PlannedTask). plan_scan buses functions t store) (sym same)
          ∙ same_scan buses functions task first store;
    }
begun_task (task ∷ tasks) (first ∷ begins) (suc number) begun is =
    let rest = begun_task tasks begins number begun is in
    record { task = rest.task; there = rest.there; means = rest.means }
