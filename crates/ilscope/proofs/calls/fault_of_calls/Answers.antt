use Rattle.std.proofs.Common.{◌∙◌, List, subst}
use Rattle.std.proofs.lemmas.List.{take_all}
use Rattle.ildeclared.specs.Faults.{IsNextOf, OfCause}
use Rattle.ildeclared.specs.declared.fault.NameCause.TheVariants.{BadDeclaration}
use Rattle.ildeclared.proofs.OneCause.{more_of_cause}
use Rattle.ilscope.specs.UseFaults.{IsCalledWrongly, IsWrongIn}
use Rattle.ilscope.specs.declared.calls.FunctionCall.{FunctionCall}
use Rattle.ilscope.proofs.calls.fault_of_calls.Goals as goal

pub loop-call-preserved : goal.loop-call-preserved
loop-call-preserved c p at =
    rw c.lesser_of-least.ensures
    (more_of_cause c.args.after BadDeclaration
    (λ (x : FunctionCall) place. IsCalledWrongly c.args.scope.now.tree p place x.operands x.function)
    c.deref-call-items.result.now c.loop-call.call-index _ c.loop-call.least c.called_wrongly.result
    c.loop-call-test.true (c.loop-call.invariant p at) (c.called_wrongly.ensures p at))

pub returns : goal.returns
returns c p at =
    subst (λ (calls : List FunctionCall). IsNextOf c.args.after
    (OfCause BadDeclaration (λ place. IsWrongIn c.args.scope.now.tree p place calls)) c.loop-call.least)
    (take_all c.loop-call.call-index c.deref-call-items.result.now c.loop-call-test.false
    ∙ c.deref-call-items.ensures.value
    ∙ c.in_ok-calls.ensures)
    (c.loop-call.invariant p at)
