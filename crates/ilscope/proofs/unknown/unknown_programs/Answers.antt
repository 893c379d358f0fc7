use Rattle.ildeclared.specs.Kept.{kept_under}
use Rattle.ildeclared.specs.declared.fault.NameCause.TheVariants.{Unknown}
use Rattle.ildeclared.proofs.OneCause.{more_of_cause, whole_of_cause}
use Rattle.ilscope.specs.Faults.{IsUnknownName}
use Rattle.ilsource.specs.declared.configuration.InstanceDeclaration.{InstanceDeclaration}
use Rattle.ilscope.proofs.unknown.unknown_programs.Goals as goal

pub loop-instance-preserved : goal.loop-instance-preserved
loop-instance-preserved c =
    rw c.lesser_of-least.ensures
    (more_of_cause c.args.after Unknown (λ (x : InstanceDeclaration) place. IsUnknownName
    (kept_under c.args.lower.now c.args.programs.now) place x.program) c.args.instances.now
    c.loop-instance.instance-index _
    c.loop-instance.least c.unknown_name.result c.loop-instance-test.true c.loop-instance.invariant
    c.unknown_name.ensures)

pub returns : goal.returns
returns c =
    whole_of_cause c.args.after Unknown (λ (x : InstanceDeclaration) place. IsUnknownName
    (kept_under c.args.lower.now c.args.programs.now) place x.program) c.args.instances.now
    c.loop-instance.instance-index c.loop-instance.least
    c.loop-instance-test.false c.loop-instance.invariant
