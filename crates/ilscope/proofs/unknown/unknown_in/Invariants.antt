use Rattle.std.proofs.Common.{take}
use Rattle.ildeclared.specs.Faults.{IsNextOf, OfCause, SomeOf}
use Rattle.ildeclared.specs.Kept.{kept_under}
use Rattle.ildeclared.specs.declared.fault.NameCause.TheVariants.{Unknown}
use Rattle.ilscope.specs.Faults.{IsUnknownName}
use Rattle.ilscope.proofs.unknown.unknown_in.Given as goal

abbrev pub invariant-loop-external : goal.invariant-loop-external
invariant-loop-external l =
    IsNextOf l.after (OfCause Unknown (λ place. SomeOf (λ e. IsUnknownName (kept_under l.lower l.globals) place e.name)
    (take l.external-index l.externals))) l.least
