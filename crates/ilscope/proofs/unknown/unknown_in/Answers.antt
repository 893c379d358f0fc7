use Rattle.ildeclared.specs.Kept.{kept_under}
use Rattle.ildeclared.specs.declared.external.DeclaredExternal.{DeclaredExternal}
use Rattle.ildeclared.specs.declared.fault.NameCause.TheVariants.{Unknown}
use Rattle.ildeclared.proofs.OneCause.{item_of_cause, whole_of_cause}
use Rattle.ilscope.specs.Faults.{IsUnknownName}
use Rattle.ilscope.proofs.unknown.unknown_in.Goals as goal

pub loop-external-preserved : goal.loop-external-preserved
loop-external-preserved c =
    rw c.lesser_of-least.ensures
    (item_of_cause c.args.after Unknown (λ (x : DeclaredExternal) place. IsUnknownName
    (kept_under c.args.lower.now c.args.globals.now) place x.name) c.args.externals.now
    c.loop-external.external-index _
    c.external-item.result c.loop-external.least c.unknown_name.result c.loop-external-test.true c.external-item.is
    c.loop-external.invariant c.unknown_name.ensures)

pub returns : goal.returns
returns c =
    whole_of_cause c.args.after Unknown (λ (x : DeclaredExternal) place. IsUnknownName
    (kept_under c.args.lower.now c.args.globals.now) place x.name) c.args.externals.now
    c.loop-external.external-index c.loop-external.least
    c.loop-external-test.false c.loop-external.invariant
