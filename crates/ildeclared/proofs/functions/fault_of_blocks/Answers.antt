use Rattle.ildeclared.specs.Faults.{AreBlocksIn}
use Rattle.ildeclared.specs.declared.fault.NameCause.TheVariants.{BadDeclaration}
use Rattle.ildeclared.proofs.OneCause.{item_of_cause, whole_of_cause}
use Rattle.ildeclared.proofs.functions.fault_of_blocks.Goals as goal

pub loop-declaration-preserved : goal.loop-declaration-preserved
loop-declaration-preserved c =
    rw c.lesser_of-least.ensures
    (item_of_cause c.args.after BadDeclaration (λ x place. AreBlocksIn place x) c.args.declarations.now
    c.loop-declaration.declaration-index _ c.declaration-item.result c.loop-declaration.least c.blocks_at.result
    c.loop-declaration-test.true c.declaration-item.is c.loop-declaration.invariant c.blocks_at.ensures)

pub returns : goal.returns
returns c =
    whole_of_cause c.args.after BadDeclaration (λ x place. AreBlocksIn place x) c.args.declarations.now
    c.loop-declaration.declaration-index c.loop-declaration.least c.loop-declaration-test.false
    c.loop-declaration.invariant
