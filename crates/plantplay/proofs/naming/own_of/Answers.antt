use Rattle.std.proofs.Common.{arith}
use Rattle.plantplay.proofs.Places.{in_no_task, task_more}
use Rattle.plantplay.proofs.naming.own_of.Goals as goal

pub returns : goal.returns
returns c =
    in_no_task c.args.plan.now c.args.name.now c.loop-task.task
    (omega (arith, c.tasks-task-end.ensures, c.loop-task-test.false)) c.loop-task.invariant

pub loop-task-preserved : goal.loop-task-preserved
loop-task-preserved c =
    task_more c.args.plan.now c.args.name.now c.loop-task.task c.loop-task.invariant c.in_default.ensures
