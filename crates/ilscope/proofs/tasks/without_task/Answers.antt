use Rattle.ildeclared.specs.declared.fault.NameCause.TheVariants.{NoTask}
use Rattle.ildeclared.proofs.OneCause.{more_of_cause, whole_of_cause}
use Rattle.ilscope.specs.Faults.{HasNoTaskAt}
use Rattle.ilscope.proofs.tasks.without_task.Goals as goal

pub loop-instance-preserved : goal.loop-instance-preserved
loop-instance-preserved c =
    rw c.lesser_of-least.ensures
    (more_of_cause c.args.after NoTask (λ x place. HasNoTaskAt place x) c.args.instances.now
    c.loop-instance.instance-index _
    c.loop-instance.least c.lacks_task.result c.loop-instance-test.true c.loop-instance.invariant c.lacks_task.ensures)

pub returns : goal.returns
returns c =
    whole_of_cause c.args.after NoTask (λ x place. HasNoTaskAt place x) c.args.instances.now
    c.loop-instance.instance-index
    c.loop-instance.least
    c.loop-instance-test.false c.loop-instance.invariant
