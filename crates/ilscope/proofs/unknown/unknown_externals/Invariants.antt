use Rattle.std.proofs.Common.{take}
use Rattle.ildeclared.specs.Faults.{IsNextOf, OfCause, SomeOf}
use Rattle.ildeclared.specs.Kept.{kept_under}
use Rattle.ildeclared.specs.declared.fault.NameCause.TheVariants.{Unknown}
use Rattle.ilscope.specs.Faults.{IsUnknownExternalIn}
use Rattle.ilscope.proofs.unknown.unknown_externals.Given as goal

abbrev pub invariant-loop-program : goal.invariant-loop-program
invariant-loop-program l =
    IsNextOf l.after (OfCause Unknown (λ place. SomeOf (IsUnknownExternalIn (kept_under l.lower l.globals) place)
    (take l.program-index l.programs))) l.least
