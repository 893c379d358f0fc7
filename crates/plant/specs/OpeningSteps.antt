-- What private functions make of a setup.
use Rattle.std.specs.Prelude.{◌≡◌, ℕ, List, All, map, slice_get, Some}
use Rattle.iltypes.specs.declared.value.IlType.{IlType}
use Rattle.ilplan.specs.Plans.{PlannedTask, Planned}
use Rattle.ilmachine.specs.Verdicts.{Accepted}
use Rattle.ilmachine.specs.Images.{TaskImage, first_task, IsLawfulTask}
use Rattle.ilcompile.specs.Loaded.{Loaded}
use Rattle.plantevents.specs.Plants.{Plant, externals_of, own_initials}
use Rattle.plant.specs.Shown.{plant_of}

-- the image before the first event does not hang on the number of workers
abbrev pub as_planned : Loaded → Plant
as_planned setup = plant_of setup 0

abbrev pub global_types : Planned → List IlType
global_types plan = map (λ g. g.value_type) plan.globals

-- task t before its first scan, which is lawful among the global variables
pub record IsFirstImage (setup : Loaded) (t : ℕ) (image : TaskImage) : Type 0 where
  pub task : PlannedTask
  pub code : Accepted
  pub is_task : slice_get setup.plan.tasks t ≡ Some task
  pub is_code : slice_get setup.codes t ≡ Some code
  pub made : image ≡ first_task code (externals_of task) (own_initials task) task.states
  pub lawful : IsLawfulTask (global_types setup.plan) image.layout

abbrev pub AreLawfulTasks : Loaded → List TaskImage → Type 0
AreLawfulTasks setup images = All (λ image. IsLawfulTask (global_types setup.plan) image.layout) images
