use Rattle.std.proofs.Common.{take}
use Rattle.ildeclared.specs.Faults.{IsNextOf, SomeOf}
use Rattle.ilscope.specs.Declarations.{as_program, declared_functions}
use Rattle.ilscope.specs.UseFaults.{IsFaultOfBody}
use Rattle.ilscope.proofs.lines.fault_in_functions.Given as goal

abbrev pub invariant-loop-number : goal.invariant-loop-number
invariant-loop-number l =
    IsNextOf l.fn.after
    (λ place cause.
    SomeOf (λ f. IsFaultOfBody l.fn.scope.tree (as_program f) place cause)
    (take l.number (declared_functions l.fn.scope.tree)))
    l.least
