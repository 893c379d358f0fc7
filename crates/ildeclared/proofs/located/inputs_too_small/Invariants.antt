use Rattle.std.proofs.Common.{take}
use Rattle.ildeclared.specs.Faults.{IsNextOf, OfCause, SomeOf, IsInputTooSmallIn}
use Rattle.ildeclared.specs.Kept.{types_in}
use Rattle.ildeclared.specs.declared.fault.NameCause.TheVariants.{InputRangeTooSmall}
use Rattle.ildeclared.proofs.located.inputs_too_small.Given as goal

abbrev pub invariant-loop-global : goal.invariant-loop-global
invariant-loop-global l =
    IsNextOf l.after (OfCause InputRangeTooSmall (λ place. SomeOf (IsInputTooSmallIn (types_in l.lower l.types) place)
    (take l.global-index l.globals))) l.least
