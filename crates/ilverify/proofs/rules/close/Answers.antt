use Rattle.std.proofs.Common.{sym}
use Rattle.ilverify.proofs.RuleOperators.{closing_of, no_inner}
use Rattle.ilverify.proofs.rules.close.Goals as goal

pub returns-in-Some : goal.returns-in-Some
returns-in-Some c =
    rw c.in-Some.is
    (closing_of c.args.operator c.args.saved _ c.after.result c.after.ensures.known c.after.ensures.refused)

pub returns-in-None : goal.returns-in-None
returns-in-None c =
    rw (c.in-None.is, c.if_right.ensures)
    (no_inner c.args.operator c.args.saved c.takes.result (sym c.takes.ensures))
