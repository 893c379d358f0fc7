use Rattle.std.proofs.Common.{◌≡◌, take}
use Rattle.std.specs.List.{enumerate_from}
use Rattle.ildeclared.specs.Faults.{IsNextOf, OfCause, SomeOf}
use Rattle.ildeclared.specs.declared.fault.NameCause.TheVariants.{WrittenTwice}
use Rattle.ilscope.specs.Configured.{globals_of}
use Rattle.ilsyms.specs.Faults.{AreTwoStoring}
use Rattle.ilsyms.proofs.written_twice.written_twice.Given as goal

abbrev pub invariant-loop-number : goal.invariant-loop-number
invariant-loop-number l =
    IsNextOf l.fn.after
    (λ place cause.
    SomeOf (λ g. OfCause WrittenTwice (λ at. AreTwoStoring l.fn.scope.tree g.0 × (at ≡ g.1.name.from)) place cause)
    (take l.number (enumerate_from 0 (globals_of l.fn.scope.tree))))
    l.least
