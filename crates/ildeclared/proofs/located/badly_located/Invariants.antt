use Rattle.std.proofs.Common.{take}
use Rattle.ildeclared.specs.Faults.{IsNextOf, OfCause, SomeOf, IsBadlyLocatedIn}
use Rattle.ildeclared.specs.Kept.{types_in}
use Rattle.ildeclared.specs.declared.fault.NameCause.TheVariants.{BadDeclaration}
use Rattle.ildeclared.proofs.located.badly_located.Given as goal

abbrev pub invariant-loop-global : goal.invariant-loop-global
invariant-loop-global l =
    IsNextOf l.after (OfCause BadDeclaration (λ place. SomeOf (IsBadlyLocatedIn (types_in l.lower l.types) place)
    (take l.global-index l.globals))) l.least
