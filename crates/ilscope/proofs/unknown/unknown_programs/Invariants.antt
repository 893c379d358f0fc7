use Rattle.std.proofs.Common.{take}
use Rattle.ildeclared.specs.Faults.{IsNextOf, OfCause, SomeOf}
use Rattle.ildeclared.specs.Kept.{kept_under}
use Rattle.ildeclared.specs.declared.fault.NameCause.TheVariants.{Unknown}
use Rattle.ilscope.specs.Faults.{IsUnknownName}
use Rattle.ilscope.proofs.unknown.unknown_programs.Given as goal

abbrev pub invariant-loop-instance : goal.invariant-loop-instance
invariant-loop-instance l =
    IsNextOf l.after (OfCause Unknown (λ place. SomeOf (λ i. IsUnknownName (kept_under l.lower l.programs) place
    i.program)
    (take l.instance-index l.instances))) l.least
