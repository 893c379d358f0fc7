use Rattle.std.proofs.Common.{◌≡◌, ◌++◌, take}
use Rattle.std.specs.Prelude.{flat_map}
use Rattle.livekeep.specs.KeptPlans.{global_taken, task_taken}
use Rattle.livekeep.proofs.left_out.taken.Given as goal

abbrev pub invariant-loop-task : goal.invariant-loop-task
invariant-loop-task l =
    l.taken.items
    ≡ flat_map (global_taken l.plan.text l.kept.values) l.plan.globals
    ++ flat_map (task_taken l.plan l.kept.values) (take l.task l.plan.tasks)
