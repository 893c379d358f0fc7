use Rattle.std.proofs.Common.{sym, ◌∙◌, ap}
use Rattle.ilverify.specs.RuleSteps.{may_modify}
use Rattle.ilverify.proofs.RuleStores.{no_slot, nothing_stored, neither_stored}
use Rattle.ilverify.proofs.rules.store_typed.Goals as goal

pub returns-in-Some-None : goal.returns-in-Some-None
returns-in-Some-None c =
    rw (c.in-Some-None.is-0, c.in-Some-None.is-1, c.if_right.ensures)
    (no_slot c.args.negated _ c.may_modify.result (sym c.may_modify.ensures))

pub returns-in-None-Some : goal.returns-in-None-Some
returns-in-None-Some c =
    rw (c.in-None-Some.is-0, c.in-None-Some.is-1, c.if_right-in-None-Some.ensures)
    (nothing_stored c.args.negated _ c.may_modify-right.result
    (sym (c.may_modify-right.ensures ∙ ap (may_modify c.args.negated) c.of.ensures.value)))

pub returns-in-None-None : goal.returns-in-None-None
returns-in-None-None c = rw (c.in-None-None.is-0, c.in-None-None.is-1) (neither_stored c.args.negated)
