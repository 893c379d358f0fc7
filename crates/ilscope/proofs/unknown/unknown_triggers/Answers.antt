use Rattle.ildeclared.specs.Kept.{kept_under}
use Rattle.ildeclared.specs.declared.fault.NameCause.TheVariants.{Unknown}
use Rattle.ildeclared.proofs.OneCause.{more_of_cause, whole_of_cause}
use Rattle.ilscope.specs.Faults.{IsUnknownTriggerOf}
use Rattle.ilscope.proofs.unknown.unknown_triggers.Goals as goal

pub loop-task-preserved : goal.loop-task-preserved
loop-task-preserved c =
    rw c.lesser_of-least.ensures
    (more_of_cause c.args.after Unknown (λ x place. IsUnknownTriggerOf (kept_under c.args.lower.now c.args.globals.now)
    place x)
    c.args.tasks.now c.loop-task.task-index _
    c.loop-task.least c.unknown_of.result c.loop-task-test.true c.loop-task.invariant c.unknown_of.ensures)

pub returns : goal.returns
returns c =
    whole_of_cause c.args.after Unknown (λ x place. IsUnknownTriggerOf (kept_under c.args.lower.now c.args.globals.now)
    place x)
    c.args.tasks.now c.loop-task.task-index c.loop-task.least
    c.loop-task-test.false c.loop-task.invariant
