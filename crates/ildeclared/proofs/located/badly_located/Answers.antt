use Rattle.ildeclared.specs.Faults.{IsBadlyLocatedIn}
use Rattle.ildeclared.specs.Kept.{types_in}
use Rattle.ildeclared.specs.declared.fault.NameCause.TheVariants.{BadDeclaration}
use Rattle.ildeclared.proofs.OneCause.{item_of_cause, whole_of_cause}
use Rattle.ildeclared.proofs.located.badly_located.Goals as goal

pub loop-global-preserved : goal.loop-global-preserved
loop-global-preserved c =
    rw c.lesser_of-least.ensures
    (item_of_cause c.args.after BadDeclaration (λ x place. IsBadlyLocatedIn
    (types_in c.args.lower.now c.args.types.now) place x)
    c.args.globals.now c.loop-global.global-index _
    c.global-item.result c.loop-global.least c.badly_located_one.result c.loop-global-test.true c.global-item.is
    c.loop-global.invariant c.badly_located_one.ensures)

pub returns : goal.returns
returns c =
    whole_of_cause c.args.after BadDeclaration (λ x place. IsBadlyLocatedIn
    (types_in c.args.lower.now c.args.types.now) place x)
    c.args.globals.now c.loop-global.global-index c.loop-global.least
    c.loop-global-test.false c.loop-global.invariant
