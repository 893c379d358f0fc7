use Rattle.std.proofs.Common.{take}
use Rattle.ildeclared.specs.Faults.{IsNextOf, OfCause, SomeOf}
use Rattle.ildeclared.specs.declared.fault.NameCause.TheVariants.{BadDeclaration}
use Rattle.ilscope.specs.Faults.{IsBadFunction}
use Rattle.ilscope.proofs.functions.bad_functions.Given as goal

abbrev pub invariant-loop-function : goal.invariant-loop-function
invariant-loop-function l =
    IsNextOf l.after (OfCause BadDeclaration (λ place. SomeOf (IsBadFunction place)
    (take l.function-index l.functions)))
    l.least
