use Rattle.std.proofs.Common.{take}
use Rattle.ilsource.specs.Names.{folded}
use Rattle.ildeclared.specs.Faults.{IsNextOf, OfCause, SomeOf}
use Rattle.ildeclared.specs.declared.fault.NameCause.TheVariants.{Twice}
use Rattle.ilscope.specs.Faults.{IsTwiceIn}
use Rattle.ilscope.specs.UseFaults.{ports_given}
use Rattle.ilscope.proofs.arguments.given_twice.Given as goal

abbrev pub invariant-loop-line : goal.invariant-loop-line
invariant-loop-line l =
    IsNextOf l.after
    (λ place cause.
    SomeOf (λ line. OfCause Twice (IsTwiceIn (folded l.scope.tree.text) (ports_given line.instruction)) place cause)
    (take l.line-index l.lines))
    l.least
