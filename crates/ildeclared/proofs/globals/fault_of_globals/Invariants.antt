use Rattle.std.proofs.Common.{take}
use Rattle.ildeclared.specs.Faults.{IsNextOf, SomeOf, IsFaultIn}
use Rattle.ildeclared.specs.Globals.{as_variables}
use Rattle.ildeclared.specs.Kept.{types_in}
use Rattle.ildeclared.proofs.globals.fault_of_globals.Given as goal

abbrev pub invariant-loop-declaration : goal.invariant-loop-declaration
invariant-loop-declaration l =
    IsNextOf l.after (λ place cause. SomeOf (λ d. IsFaultIn (types_in l.lower l.types) (as_variables d) place cause)
    (take l.declaration-index l.declarations)) l.least
