use Rattle.std.proofs.Common.{sym, ◌∙◌, arith}
use Rattle.commissioning.specs.Differences.{is_at}
use Rattle.commissioning.proofs.Lookups.{any_here, any_later, any_nowhere}
use Rattle.commissioning.proofs.declared.is_located.Goals as goal

pub returns-then-is_at : goal.returns-then-is_at
returns-then-is_at c =
    sym (sym c.loop-number.invariant
    ∙ any_here (is_at c.args.place) c.args.plan.now.globals c.loop-number.number c.global.result.now
    c.global.ensures.value (sym c.is_at.ensures ∙ c.if-is_at.true))

pub loop-number-preserved : goal.loop-number-preserved
loop-number-preserved c =
    any_later (is_at c.args.place) c.args.plan.now.globals c.loop-number.number c.global.result.now
    c.global.ensures.value (sym c.is_at.ensures ∙ c.if-is_at.false) ∙ c.loop-number.invariant

pub returns : goal.returns
returns c =
    sym (sym c.loop-number.invariant
    ∙ any_nowhere (is_at c.args.place) c.args.plan.now.globals c.loop-number.number
    (omega (arith, c.globals-number-end.ensures, c.loop-number-test.false)))
