use Rattle.ildeclared.specs.Kept.{kept_under}
use Rattle.ildeclared.specs.declared.external.DeclaredExternal.{DeclaredExternal}
use Rattle.ildeclared.specs.declared.fault.NameCause.TheVariants.{BadDeclaration}
use Rattle.ildeclared.proofs.OneCause.{item_of_cause, whole_of_cause}
use Rattle.std.specs.Prelude.{◌≡◌, None, option_and_then, slice_get, unwrap_or}
use Rattle.ilscope.specs.Faults.{AreOther}
use Rattle.ilscope.proofs.other_types.other_in.Goals as goal

pub loop-external-preserved : goal.loop-external-preserved
loop-external-preserved c =
    rw c.lesser_of-least.ensures
    (item_of_cause c.args.after BadDeclaration (λ (x : DeclaredExternal) place. AreOther x.value_type
    (option_and_then (λ number. unwrap_or (slice_get c.args.globals.now number) None)
    (kept_under c.args.lower.now c.args.numbers.now x.name)) × (place ≡ x.name.from)) c.args.externals.now
    c.loop-external.external-index _
    c.external-item.result c.loop-external.least c.other_external.result c.loop-external-test.true c.external-item.is
    c.loop-external.invariant c.other_external.ensures)

pub returns : goal.returns
returns c =
    whole_of_cause c.args.after BadDeclaration (λ (x : DeclaredExternal) place. AreOther x.value_type
    (option_and_then (λ number. unwrap_or (slice_get c.args.globals.now number) None)
    (kept_under c.args.lower.now c.args.numbers.now x.name)) × (place ≡ x.name.from)) c.args.externals.now
    c.loop-external.external-index c.loop-external.least
    c.loop-external-test.false c.loop-external.invariant
