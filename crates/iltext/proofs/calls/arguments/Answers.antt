use Rattle.std.proofs.Common.{◌≡◌, true, false}
use Rattle.std.proofs.lemmas.Result.{err_from_is_err_and}
use Rattle.iltokens.specs.Items.{begins}
use Rattle.iltokens.proofs.Loops.{goes_on, fails, is_done, shrinks}
use Rattle.iltext.specs.Calls.{more_arguments, next_argument}
use Rattle.iltext.proofs.CallLaws.{Firm-next_argument}
use Rattle.iltext.proofs.calls.arguments.Goals as goal

pub returns-in_err-next : goal.returns-in_err-next
unfolding more_arguments
returns-in_err-next c =
    let p = err_from_is_err_and c.from_residual-in_err-next.result c.from_residual-in_err-next.ensures.1 in
    let is : begins (next_argument c.args.block) c.more.rest.now ≡ true = cc in
    rw (p.1, p.2)
    (fails _ _ _ _ (Firm-next_argument c.args.block) _ _ _ _ is c.in_err-next.ensures c.more.invariant)

pub more-smaller : goal.more-smaller
more-smaller c = shrinks _ _ _ _ (Firm-next_argument c.args.block) _ _ _ c.in_ok-next.ensures

pub more-preserved : goal.more-preserved
unfolding more_arguments
more-preserved c =
    let is : begins (next_argument c.args.block) c.more.rest.now ≡ true = cc in
    rw c.in_ok-push-2.ensures.items
    (goes_on _ _ _ _ (Firm-next_argument c.args.block) _ _ _ _ _ is c.in_ok-next.ensures c.more.invariant)

pub returns : goal.returns
unfolding more_arguments
returns c =
    let is : begins (next_argument c.args.block) c.more.rest.now ≡ false = cc in
    is_done _ _ _ _ (Firm-next_argument c.args.block) _ _ _ is c.more.invariant
