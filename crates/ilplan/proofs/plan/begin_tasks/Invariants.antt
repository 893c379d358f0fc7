use Rattle.std.proofs.Common.{◌≡◌, take}
use Rattle.ilplan.specs.Beginnings.{each_with, task_with}
use Rattle.ilplan.proofs.plan.begin_tasks.Given as goal

abbrev pub invariant-loop-i : goal.invariant-loop-i
invariant-loop-i l = l.tasks.items ≡ each_with task_with l.fn.tasks.items (take l.i l.firsts)
