use Rattle.std.proofs.Common.{◌≡◌, false, ℕ, ◌<◌, ◌≤◌}
use Rattle.readytasks.specs.TaskSets.{task_at}
use Rattle.readytasks.specs.TaskSetSteps.{is_ready}
use Rattle.readytasks.specs.ReadyLists.{IsOrderOf, is_listed}
use Rattle.readytasks.proofs.ready_list.first_ready.Given as goal

abbrev pub invariant-loop-task : goal.invariant-loop-task
invariant-loop-task l = record {
  order : IsOrderOf l.states l.ready.items;
  listed : (t : ℕ) → t < l.task → is_listed l.ready.items t ≡ is_ready (task_at l.states t) 0;
  ahead : (t : ℕ) → l.task ≤ t → is_listed l.ready.items t ≡ false;
}
