use Rattle.std.proofs.Common.{take}
use Rattle.ildeclared.specs.Faults.{IsNextOf, OfCause, SomeOf}
use Rattle.ildeclared.specs.Kept.{kept_under}
use Rattle.ildeclared.specs.declared.fault.NameCause.TheVariants.{BadDeclaration}
use Rattle.std.specs.Prelude.{◌≡◌, None, option_and_then, slice_get, unwrap_or}
use Rattle.ilscope.specs.Faults.{AreOther}
use Rattle.ilscope.proofs.other_types.other_in.Given as goal

abbrev pub invariant-loop-external : goal.invariant-loop-external
invariant-loop-external l =
    IsNextOf l.after (OfCause BadDeclaration (λ place. SomeOf (λ e. AreOther e.value_type
    (option_and_then (λ number. unwrap_or (slice_get l.globals number) None) (kept_under l.lower l.numbers e.name)) ×
    (place ≡ e.name.from)) (take l.external-index l.externals))) l.least
