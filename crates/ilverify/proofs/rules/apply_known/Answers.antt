use Rattle.std.proofs.Common.{sym}
use Rattle.ilverify.proofs.RuleOperators.{apply_of, no_operand, no_current, neither}
use Rattle.ilverify.proofs.rules.apply_known.Goals as goal

pub returns-in-Some-Some : goal.returns-in-Some-Some
returns-in-Some-Some c =
    rw (c.in-Some-Some.is-0, c.in-Some-Some.is-1)
    (apply_of c.args.operator _ _ c.after.result c.after.ensures.known c.after.ensures.refused)

pub returns-in-Some-None : goal.returns-in-Some-None
returns-in-Some-None c =
    rw (c.in-Some-None.is-0, c.in-Some-None.is-1, c.if_right.ensures)
    (no_operand c.args.operator _ c.takes.result (sym c.takes.ensures))

pub returns-in-None-Some : goal.returns-in-None-Some
returns-in-None-Some c =
    rw (c.in-None-Some.is-0, c.in-None-Some.is-1, c.if_right-in-None-Some.ensures)
    (no_current c.args.operator _ c.takes-in-None-Some.result (sym c.takes-in-None-Some.ensures))

pub returns-in-None-None : goal.returns-in-None-None
returns-in-None-None c = rw (c.in-None-None.is-0, c.in-None-None.is-1) (neither c.args.operator)
