use Rattle.std.proofs.Common.{take}
use Rattle.ildeclared.specs.Faults.{IsNextOf, OfCause, SomeOf}
use Rattle.ildeclared.specs.declared.fault.NameCause.TheVariants.{TooMany}
use Rattle.ilsyms.specs.Faults.{IsTooManyIn}
use Rattle.ilsyms.specs.Tasks.{tasks_of}
use Rattle.ilsyms.proofs.excess.too_many_in_tasks.Given as goal

abbrev pub invariant-loop-task : goal.invariant-loop-task
invariant-loop-task l =
    IsNextOf l.fn.after
    (λ place cause.
    SomeOf (λ t. OfCause TooMany (λ at. IsTooManyIn l.fn.scope.tree at t.instances) place cause)
    (take l.task-index (tasks_of l.fn.scope.tree)))
    l.least
