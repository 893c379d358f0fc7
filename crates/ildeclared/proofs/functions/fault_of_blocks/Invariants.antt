use Rattle.std.proofs.Common.{take}
use Rattle.ildeclared.specs.Faults.{AreBlocksIn, IsNextOf, OfCause, SomeOf}
use Rattle.ildeclared.specs.declared.fault.NameCause.TheVariants.{BadDeclaration}
use Rattle.ildeclared.proofs.functions.fault_of_blocks.Given as goal

abbrev pub invariant-loop-declaration : goal.invariant-loop-declaration
invariant-loop-declaration l =
    IsNextOf l.after (OfCause BadDeclaration (λ place. SomeOf (AreBlocksIn place)
    (take l.declaration-index l.declarations)))
    l.least
