use Rattle.std.proofs.Common.{◌≡◌, take}
use Rattle.plantevents.specs.Plants.{first_tasks}
use Rattle.plant.specs.OpeningSteps.{AreLawfulTasks}
use Rattle.plant.proofs.opening.task_images.Given as goal

abbrev pub invariant-loop-task : goal.invariant-loop-task
invariant-loop-task l = record {
  made : l.images.items ≡ first_tasks (take l.task l.setup.plan.tasks) (take l.task l.setup.codes);
  lawful : AreLawfulTasks l.setup l.images.items;
}
