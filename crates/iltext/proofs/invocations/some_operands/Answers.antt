use Rattle.std.proofs.Common.{◌≡◌, true, false}
use Rattle.std.proofs.lemmas.Result.{err_from_is_err_and}
use Rattle.iltokens.specs.Items.{begins}
use Rattle.iltokens.proofs.Loops.{goes_on, fails, is_done, shrinks}
use Rattle.iltext.specs.Invocations.{more_operands, next_operand}
use Rattle.iltext.proofs.InvocationLaws.{Firm-next_operand}
use Rattle.iltext.proofs.invocations.some_operands.Goals as goal

pub returns-in_err-next : goal.returns-in_err-next
unfolding more_operands
returns-in_err-next c =
    let p = err_from_is_err_and c.from_residual-in_err-next.result c.from_residual-in_err-next.ensures.1 in
    let is : begins next_operand c.more.rest.now ≡ true = cc in
    rw (p.1, p.2) (fails _ _ _ _ Firm-next_operand _ _ _ _ is c.in_err-next.ensures c.more.invariant)

pub more-smaller : goal.more-smaller
more-smaller c = shrinks _ _ _ _ Firm-next_operand _ _ _ c.in_ok-next.ensures

pub more-preserved : goal.more-preserved
unfolding more_operands
more-preserved c =
    let is : begins next_operand c.more.rest.now ≡ true = cc in
    rw c.in_ok-push-2.ensures.items
    (goes_on _ _ _ _ Firm-next_operand _ _ _ _ _ is c.in_ok-next.ensures c.more.invariant)

pub returns : goal.returns
unfolding more_operands
returns c =
    let is : begins next_operand c.more.rest.now ≡ false = cc in
    is_done _ _ _ _ Firm-next_operand _ _ _ is c.more.invariant
