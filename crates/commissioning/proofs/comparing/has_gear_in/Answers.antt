use Rattle.std.proofs.Common.{◌≡◌, ◌≤◌, true, false, sym, ◌∙◌, subst, arith}
use Rattle.commissioning.specs.Differences.{is_in_group}
use Rattle.commissioning.proofs.Numbering.{any_at, none_more, none_of_all}
use Rattle.commissioning.proofs.comparing.has_gear_in.Goals as goal

pub returns-then-is_in_group : goal.returns-then-is_in_group
returns-then-is_in_group c =
    let survey = c.args.survey.now in
    sym (any_at (is_in_group survey c.args.group) c.loop-number.number 64 c.loop-number-test.true
    (subst (λ n. is_in_group survey c.args.group n ≡ true) c.in-Some.ensures.1
    (sym c.is_in_group.ensures ∙ c.if-is_in_group.true)))

pub loop-number-preserved : goal.loop-number-preserved
loop-number-preserved c =
    let survey = c.args.survey.now in
    none_more (is_in_group survey c.args.group) c.loop-number.number c.loop-number.invariant
    (subst (λ n. is_in_group survey c.args.group n ≡ false) c.in-Some.ensures.1
    (sym c.is_in_group.ensures ∙ c.if-is_in_group.false))

pub returns : goal.returns
returns c =
    let most : c.loop-number.number ≤ 64 = omega arith in
    sym (none_of_all (is_in_group c.args.survey.now c.args.group) c.loop-number.number 64 most
    c.loop-number-test.false c.loop-number.invariant)
