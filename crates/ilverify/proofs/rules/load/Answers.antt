use Rattle.std.proofs.lemmas.Result.{err_from_is_err_and}
use Rattle.ilverify.proofs.RuleNames.{load_refused, load_of_others}
use Rattle.ilverify.proofs.rules.load.Goals as goal

pub returns-in_err-known : goal.returns-in_err-known
returns-in_err-known c =
    let p = err_from_is_err_and c.from_residual.result c.from_residual.ensures.1 in
    rw (p.1, p.2)
    (load_refused c.args.negated c.args.operand c.args.named c.in_err-known.field-0.0 c.in_err-known.ensures)

pub returns-else-named : goal.returns-else-named
returns-else-named c =
    load_of_others c.args.negated c.args.operand c.args.named c.in_ok-known.known c.if-named.false
    c.in_ok-known.ensures
