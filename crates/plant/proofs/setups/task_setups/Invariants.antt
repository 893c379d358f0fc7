use Rattle.std.proofs.Common.{◌≡◌, ℕ, ◌<◌, length, Some}
use Rattle.std.specs.Prelude.{All, slice_get}
use Rattle.plantevents.specs.Plants.{Plant}
use Rattle.readytasks.specs.TaskSets.{HasInterval, setup_of}
use Rattle.plant.proofs.setups.task_setups.Given as goal

abbrev pub invariant-loop-task : goal.invariant-loop-task
invariant-loop-task l = record {
  count : length l.setups.items ≡ l.task;
  each : (p : Plant) → p.plan ≡ l.plan → (t : ℕ) → t < l.task → slice_get l.setups.items t ≡ Some (setup_of p t);
  intervals : All (λ s. HasInterval s.activator) l.setups.items;
}
