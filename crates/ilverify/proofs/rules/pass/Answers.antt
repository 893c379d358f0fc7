use Rattle.std.proofs.lemmas.Result.{err_from_is_err_and}
use Rattle.ilverify.proofs.RuleNames.{pass_refused_named, pass_of_others}
use Rattle.ilverify.proofs.rules.pass.Goals as goal

pub returns-in_err-passed : goal.returns-in_err-passed
returns-in_err-passed c =
    let p = err_from_is_err_and c.from_residual.result c.from_residual.ensures.1 in
    rw (p.1, p.2)
    (pass_refused_named c.args.operand c.args.named c.args.declared c.args.writable c.in_err-passed.field-0.0
    c.in_err-passed.ensures)

pub returns-else-named : goal.returns-else-named
returns-else-named c =
    pass_of_others c.args.operand c.args.named c.args.declared c.args.writable c.in_ok-passed.passed c.if-named.false
    c.in_ok-passed.ensures.0 c.in_ok-passed.ensures.1
