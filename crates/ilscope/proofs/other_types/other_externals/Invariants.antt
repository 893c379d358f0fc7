use Rattle.std.proofs.Common.{take}
use Rattle.ildeclared.specs.Faults.{IsNextOf, OfCause, SomeOf}
use Rattle.ildeclared.specs.Kept.{kept_under}
use Rattle.ildeclared.specs.declared.fault.NameCause.TheVariants.{BadDeclaration}
use Rattle.std.specs.Prelude.{None, option_and_then, slice_get, unwrap_or}
use Rattle.ilscope.specs.Faults.{IsOtherExternalIn}
use Rattle.ilscope.proofs.other_types.other_externals.Given as goal

abbrev pub invariant-loop-program : goal.invariant-loop-program
invariant-loop-program l =
    IsNextOf l.after (OfCause BadDeclaration (λ place. SomeOf (IsOtherExternalIn
    (λ name. option_and_then (λ number. unwrap_or (slice_get l.globals number) None)
    (kept_under l.lower l.numbers name)) place) (take l.program-index l.programs))) l.least
