use Rattle.std.proofs.Common.{◌≡◌, List, subst}
use Rattle.ildeclared.specs.Faults.{IsNextOf, OfCause, SomeOf}
use Rattle.ildeclared.specs.Kept.{kept_under}
use Rattle.ildeclared.specs.declared.external.DeclaredExternal.{DeclaredExternal}
use Rattle.ildeclared.specs.declared.fault.NameCause.TheVariants.{BadDeclaration}
use Rattle.ildeclared.proofs.OneCause.{item_of_cause, whole_of_cause}
use Rattle.ilscope.specs.Faults.{AreOther, IsOtherExternalIn}
use Rattle.std.specs.Prelude.{None, option_and_then, slice_get, unwrap_or}
use Rattle.ilscope.proofs.other_types.other_externals.Goals as goal

pub loop-program-preserved : goal.loop-program-preserved
loop-program-preserved c =
    rw c.lesser_of-least.ensures
    (item_of_cause c.args.after BadDeclaration (λ x place. IsOtherExternalIn
    (λ name. option_and_then (λ number. unwrap_or (slice_get c.args.globals.now number) None)
    (kept_under c.args.lower.now c.args.numbers.now name)) place x) c.args.programs.now c.loop-program.program-index _
    c.program-item.result c.loop-program.least c.other_in.result c.loop-program-test.true c.program-item.is
    c.loop-program.invariant (subst (λ (es : List DeclaredExternal). IsNextOf c.args.after
    (OfCause BadDeclaration (λ place. SomeOf (λ e. AreOther e.value_type
    (option_and_then (λ number. unwrap_or (slice_get c.args.globals.now number) None)
    (kept_under c.args.lower.now c.args.numbers.now e.name)) × (place ≡ e.name.from)) es)) c.other_in.result)
    c.externals.ensures.value c.other_in.ensures))

pub returns : goal.returns
returns c =
    whole_of_cause c.args.after BadDeclaration (λ x place. IsOtherExternalIn
    (λ name. option_and_then (λ number. unwrap_or (slice_get c.args.globals.now number) None)
    (kept_under c.args.lower.now c.args.numbers.now name)) place x) c.args.programs.now c.loop-program.program-index
    c.loop-program.least
    c.loop-program-test.false c.loop-program.invariant
