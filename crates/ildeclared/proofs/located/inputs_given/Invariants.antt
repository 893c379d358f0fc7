use Rattle.std.proofs.Common.{take}
use Rattle.ildeclared.specs.Faults.{IsNextOf, OfCause, SomeOf, IsInputGivenIn}
use Rattle.ildeclared.specs.declared.fault.NameCause.TheVariants.{WritesInput}
use Rattle.ildeclared.proofs.located.inputs_given.Given as goal

abbrev pub invariant-loop-global : goal.invariant-loop-global
invariant-loop-global l =
    IsNextOf l.after (OfCause WritesInput (λ place. SomeOf (IsInputGivenIn place) (take l.global-index l.globals)))
    l.least
