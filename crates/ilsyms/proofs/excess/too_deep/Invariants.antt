use Rattle.std.proofs.Common.{length}
use Rattle.ildeclared.specs.Faults.{IsNextOf, OfCause}
use Rattle.ildeclared.specs.declared.fault.NameCause.TheVariants.{TooMany}
use Rattle.ilsyms.proofs.DeepFunctions.{AreTooDeepBefore}
use Rattle.ilsyms.proofs.excess.too_deep.Given as goal

abbrev pub invariant-loop-function : goal.invariant-loop-function
invariant-loop-function l =
    IsNextOf l.after (OfCause TooMany (AreTooDeepBefore l.functions l.depths (length l.yielded))) l.least
