use Rattle.std.proofs.Common.{take}
use Rattle.ildeclared.specs.Faults.{IsNextOf, OfCause, SomeOf}
use Rattle.ildeclared.specs.declared.fault.NameCause.TheVariants.{BadDeclaration}
use Rattle.ilscope.specs.Faults.{IsBadTaskAt}
use Rattle.ilscope.proofs.tasks.bad_tasks.Given as goal

abbrev pub invariant-loop-task : goal.invariant-loop-task
invariant-loop-task l =
    IsNextOf l.after (OfCause BadDeclaration (λ place. SomeOf (IsBadTaskAt place) (take l.task-index l.tasks))) l.least
