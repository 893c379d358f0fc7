use Rattle.ilverify.proofs.RuleOperators.{modify_of}
use Rattle.ilverify.proofs.rules.modify.Goals as goal

pub returns-then-negated : goal.returns-then-negated
returns-then-negated c =
    rw c.if-negated.true
    (modify_of c.args.known c.after_function.result c.after_function.ensures.known c.after_function.ensures.refused)
