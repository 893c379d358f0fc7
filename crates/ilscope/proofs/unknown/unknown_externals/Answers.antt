use Rattle.std.proofs.Common.{List, subst}
use Rattle.ildeclared.specs.Faults.{IsNextOf, OfCause, SomeOf}
use Rattle.ildeclared.specs.Kept.{kept_under}
use Rattle.ildeclared.specs.declared.external.DeclaredExternal.{DeclaredExternal}
use Rattle.ildeclared.specs.declared.fault.NameCause.TheVariants.{Unknown}
use Rattle.ildeclared.proofs.OneCause.{item_of_cause, whole_of_cause}
use Rattle.ilscope.specs.Faults.{IsUnknownName, IsUnknownExternalIn}
use Rattle.ilscope.proofs.unknown.unknown_externals.Goals as goal

pub loop-program-preserved : goal.loop-program-preserved
loop-program-preserved c =
    rw c.lesser_of-least.ensures
    (item_of_cause c.args.after Unknown (λ x place. IsUnknownExternalIn
    (kept_under c.args.lower.now c.args.globals.now) place x)
    c.args.programs.now c.loop-program.program-index _
    c.program-item.result c.loop-program.least c.unknown_in.result c.loop-program-test.true c.program-item.is
    c.loop-program.invariant (subst (λ (es : List DeclaredExternal). IsNextOf c.args.after
    (OfCause Unknown (λ place. SomeOf (λ e. IsUnknownName (kept_under c.args.lower.now c.args.globals.now) place
    e.name) es)) c.unknown_in.result) c.externals.ensures.value c.unknown_in.ensures))

pub returns : goal.returns
returns c =
    whole_of_cause c.args.after Unknown (λ x place. IsUnknownExternalIn
    (kept_under c.args.lower.now c.args.globals.now) place x)
    c.args.programs.now c.loop-program.program-index c.loop-program.least
    c.loop-program-test.false c.loop-program.invariant
