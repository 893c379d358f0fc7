use Rattle.std.proofs.Common.{take}
use Rattle.ildeclared.specs.Faults.{IsNextOf, SomeOf}
use Rattle.ilscope.specs.Declarations.{declared_programs}
use Rattle.ilscope.specs.UseFaults.{IsFaultOfBody}
use Rattle.ilscope.proofs.lines.fault_in_programs.Given as goal

abbrev pub invariant-loop-number : goal.invariant-loop-number
invariant-loop-number l =
    IsNextOf l.fn.after
    (λ place cause.
    SomeOf (λ p. IsFaultOfBody l.fn.scope.tree p place cause) (take l.number (declared_programs l.fn.scope.tree)))
    l.least
