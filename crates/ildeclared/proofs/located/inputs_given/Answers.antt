use Rattle.ildeclared.specs.Faults.{IsInputGivenIn}
use Rattle.ildeclared.specs.declared.fault.NameCause.TheVariants.{WritesInput}
use Rattle.ildeclared.proofs.OneCause.{item_of_cause, whole_of_cause}
use Rattle.ildeclared.proofs.located.inputs_given.Goals as goal

pub loop-global-preserved : goal.loop-global-preserved
loop-global-preserved c =
    rw c.lesser_of-least.ensures
    (item_of_cause c.args.after WritesInput (λ x place. IsInputGivenIn place x) c.args.globals.now
    c.loop-global.global-index _
    c.global-item.result c.loop-global.least c.input_given.result c.loop-global-test.true c.global-item.is
    c.loop-global.invariant c.input_given.ensures)

pub returns : goal.returns
returns c =
    whole_of_cause c.args.after WritesInput (λ x place. IsInputGivenIn place x) c.args.globals.now
    c.loop-global.global-index
    c.loop-global.least
    c.loop-global-test.false c.loop-global.invariant
