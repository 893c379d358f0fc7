use Rattle.ildeclared.specs.declared.fault.NameCause.TheVariants.{BadDeclaration}
use Rattle.ildeclared.proofs.OneCause.{item_of_cause, whole_of_cause}
use Rattle.ilscope.specs.Faults.{IsBadFunction}
use Rattle.ilscope.proofs.functions.bad_functions.Goals as goal

pub loop-function-preserved : goal.loop-function-preserved
loop-function-preserved c =
    rw c.lesser_of-least.ensures
    (item_of_cause c.args.after BadDeclaration (λ x place. IsBadFunction place x) c.args.functions.now
    c.loop-function.function-index _ c.function-item.result c.loop-function.least c.bad_function.result
    c.loop-function-test.true c.function-item.is c.loop-function.invariant c.bad_function.ensures)

pub returns : goal.returns
returns c =
    whole_of_cause c.args.after BadDeclaration (λ x place. IsBadFunction place x) c.args.functions.now
    c.loop-function.function-index
    c.loop-function.least c.loop-function-test.false c.loop-function.invariant
