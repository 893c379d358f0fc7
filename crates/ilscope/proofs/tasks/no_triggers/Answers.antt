use Rattle.ildeclared.specs.Kept.{kept_under}
use Rattle.ildeclared.specs.declared.fault.NameCause.TheVariants.{BadAddress}
use Rattle.ildeclared.proofs.OneCause.{more_of_cause, whole_of_cause}
use Rattle.std.specs.Prelude.{option_and_then, slice_get}
use Rattle.ilscope.specs.Faults.{IsNoTriggerOf}
use Rattle.ilscope.proofs.tasks.no_triggers.Goals as goal

pub loop-task-preserved : goal.loop-task-preserved
loop-task-preserved c =
    rw c.lesser_of-least.ensures
    (more_of_cause c.args.after BadAddress (λ x place. IsNoTriggerOf
    (λ name. option_and_then (slice_get c.args.globals.now)
    (kept_under c.args.lower.now c.args.numbers.now name)) place x) c.args.tasks.now c.loop-task.task-index _
    c.loop-task.least c.no_trigger.result c.loop-task-test.true c.loop-task.invariant c.no_trigger.ensures)

pub returns : goal.returns
returns c =
    whole_of_cause c.args.after BadAddress (λ x place. IsNoTriggerOf
    (λ name. option_and_then (slice_get c.args.globals.now)
    (kept_under c.args.lower.now c.args.numbers.now name)) place x) c.args.tasks.now c.loop-task.task-index
    c.loop-task.least
    c.loop-task-test.false c.loop-task.invariant
