use Rattle.std.proofs.Common.{ℕ, ◌≤◌, ◌&&◌, sym, ◌∙◌, arith}
use Rattle.commissioning.specs.Differences.{declares_group, is_in_group}
use Rattle.commissioning.proofs.Numbering.{any_at, none_more, none_of_all}
use Rattle.commissioning.proofs.comparing.is_in_declared_group.Goals as goal

pub returns-then-is_in_this_group : goal.returns-then-is_in_this_group
returns-then-is_in_this_group c =
    let plan = c.args.declared.plan.now in
    let bus = c.args.declared.bus in
    let test = λ (n : ℕ). declares_group plan bus n && is_in_group c.args.survey.now n c.args.address in
    sym (any_at test c.loop-group.group 16 c.loop-group-test.true
    (sym c.is_in_this_group.ensures ∙ c.if-is_in_this_group.true))

pub loop-group-preserved : goal.loop-group-preserved
loop-group-preserved c =
    let plan = c.args.declared.plan.now in
    let bus = c.args.declared.bus in
    let test = λ (n : ℕ). declares_group plan bus n && is_in_group c.args.survey.now n c.args.address in
    none_more test c.loop-group.group c.loop-group.invariant
    (sym c.is_in_this_group.ensures ∙ c.if-is_in_this_group.false)

pub returns : goal.returns
returns c =
    let plan = c.args.declared.plan.now in
    let bus = c.args.declared.bus in
    let test = λ (n : ℕ). declares_group plan bus n && is_in_group c.args.survey.now n c.args.address in
    let most : c.loop-group.group ≤ 16 = omega arith in
    sym (none_of_all test c.loop-group.group 16 most c.loop-group-test.false c.loop-group.invariant)
