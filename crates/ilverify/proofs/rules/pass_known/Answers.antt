use Rattle.std.proofs.lemmas.Result.{err_from_is_err_and}
use Rattle.ilverify.proofs.RuleStores.{pass_refused, pass_to_output, no_operand_passed, no_input_passed}
use Rattle.ilverify.proofs.rules.pass_known.Goals as goal

pub returns-in_err-passed-in-Some-Some : goal.returns-in_err-passed-in-Some-Some
returns-in_err-passed-in-Some-Some c =
    let p = err_from_is_err_and c.from_residual.result c.from_residual.ensures.1 in
    rw (p.1, p.2, c.in-Some-Some.is-0, c.in-Some-Some.is-1)
    (pass_refused c.in-Some-Some.known c.in-Some-Some.declared c.args.writable
    c.in_err-passed-in-Some-Some.field-0.0 c.in_err-passed-in-Some-Some.ensures)

pub returns-else-writable : goal.returns-else-writable
returns-else-writable c =
    rw (c.in-Some-Some.is-0, c.in-Some-Some.is-1)
    (pass_to_output c.in-Some-Some.known c.in_ok-passed-in-Some-Some.passed c.in-Some-Some.declared c.args.writable
    c.if-writable.false c.in_ok-passed-in-Some-Some.ensures)

pub returns-in-Some-None : goal.returns-in-Some-None
returns-in-Some-None c = rw (c.in-Some-None.is-0, c.in-Some-None.is-1) (no_input_passed _ c.args.writable)

pub returns-in-None-default : goal.returns-in-None-default
returns-in-None-default c = rw c.in-None-default.is-0 (no_operand_passed c.args.declared c.args.writable)
