use Rattle.ildeclared.specs.declared.fault.NameCause.TheVariants.{WritesInput}
use Rattle.ildeclared.proofs.OneCause.{more_of_cause, whole_of_cause}
use Rattle.ilscope.specs.UseFaults.{StoresToOwnInput}
use Rattle.ilscope.proofs.stored.fault_at_inputs.Goals as goal

pub loop-used-preserved : goal.loop-used-preserved
loop-used-preserved c f at =
    rw c.lesser_of-least.ensures
    (more_of_cause c.args.after WritesInput (λ u place. StoresToOwnInput c.args.scope.now.tree.text f place u)
    c.args.uses.now
    c.loop-used.used-index _ c.loop-used.least c.own_input_written.result c.loop-used-test.true
    (c.loop-used.invariant f at) (c.own_input_written.ensures f at))

pub returns : goal.returns
returns c f at =
    whole_of_cause c.args.after WritesInput (λ u place. StoresToOwnInput c.args.scope.now.tree.text f place u)
    c.args.uses.now
    c.loop-used.used-index c.loop-used.least c.loop-used-test.false (c.loop-used.invariant f at)
