use Rattle.ildeclared.specs.declared.fault.NameCause.TheVariants.{BadDeclaration}
use Rattle.ildeclared.proofs.OneCause.{more_of_cause, whole_of_cause}
use Rattle.ilscope.specs.Faults.{IsBadTaskAt}
use Rattle.ilscope.proofs.tasks.bad_tasks.Goals as goal

pub loop-task-preserved : goal.loop-task-preserved
loop-task-preserved c =
    rw c.lesser_of-least.ensures
    (more_of_cause c.args.after BadDeclaration (λ x place. IsBadTaskAt place x) c.args.tasks.now c.loop-task.task-index
    _
    c.loop-task.least c.bad_task.result c.loop-task-test.true c.loop-task.invariant c.bad_task.ensures)

pub returns : goal.returns
returns c =
    whole_of_cause c.args.after BadDeclaration (λ x place. IsBadTaskAt place x) c.args.tasks.now c.loop-task.task-index
    c.loop-task.least
    c.loop-task-test.false c.loop-task.invariant
