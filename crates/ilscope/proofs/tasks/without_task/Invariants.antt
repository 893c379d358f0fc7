use Rattle.std.proofs.Common.{take}
use Rattle.ildeclared.specs.Faults.{IsNextOf, OfCause, SomeOf}
use Rattle.ildeclared.specs.declared.fault.NameCause.TheVariants.{NoTask}
use Rattle.ilscope.specs.Faults.{HasNoTaskAt}
use Rattle.ilscope.proofs.tasks.without_task.Given as goal

abbrev pub invariant-loop-instance : goal.invariant-loop-instance
invariant-loop-instance l =
    IsNextOf l.after (OfCause NoTask (λ place. SomeOf (HasNoTaskAt place) (take l.instance-index l.instances))) l.least
