use Rattle.std.proofs.Common.{sym, ◌∙◌, arith}
use Rattle.ilplan.specs.declared.global.Location.TheVariants.{Level}
use Rattle.commissioning.specs.Differences.{level_at}
use Rattle.commissioning.proofs.Lookups.{first_here, first_later, first_nowhere}
use Rattle.commissioning.proofs.declared.first_level_at.Goals as goal

pub returns-in-Some : goal.returns-in-Some
returns-in-Some c =
    sym (sym c.loop-number.invariant
    ∙ first_here (level_at (Level c.args.bus c.args.address)) c.args.plan.now.globals c.loop-number.number
    c.global.result.now c.in-Some.level c.global.ensures.value (sym c.level_at.ensures ∙ c.in-Some.is))

pub loop-number-preserved : goal.loop-number-preserved
loop-number-preserved c =
    first_later (level_at (Level c.args.bus c.args.address)) c.args.plan.now.globals c.loop-number.number
    c.global.result.now c.global.ensures.value (sym c.level_at.ensures ∙ c.in_default.is) ∙ c.loop-number.invariant

pub returns : goal.returns
returns c =
    sym (sym c.loop-number.invariant
    ∙ first_nowhere (level_at (Level c.args.bus c.args.address)) c.args.plan.now.globals c.loop-number.number
    (omega (arith, c.globals-number-end.ensures, c.loop-number-test.false)))
