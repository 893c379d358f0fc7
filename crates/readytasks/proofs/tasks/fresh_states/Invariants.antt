use Rattle.std.proofs.Common.{◌≡◌, ℕ, ◌<◌, [], length}
use Rattle.readytasks.specs.TaskSets.{TaskFollows, task_at}
use Rattle.readytasks.specs.TaskSetSteps.{setup_at}
use Rattle.readytasks.proofs.tasks.fresh_states.Given as goal

abbrev pub invariant-loop-setup : goal.invariant-loop-setup
invariant-loop-setup l = record {
  count : length l.states.items ≡ l.setup-index;
  follows : (t : ℕ) → t < l.setup-index → TaskFollows (setup_at l.setups t) t [] (task_at l.states.items t);
}
