use Rattle.std.proofs.Common.{ℕ, ◌≤◌, subst, arith}
use Rattle.std.specs.Io.KnownBytes.{Appends}
use Rattle.commissioning.specs.Differences.{instance_difference, line_of}
use Rattle.commissioning.proofs.Appending.{appends_nothing}
use Rattle.commissioning.proofs.Numbering.{all_lines, more_lines}
use Rattle.commissioning.proofs.comparing.compare_instances.Goals as goal

pub loop-number-init : goal.loop-number-init
loop-number-init g c = appends_nothing (g.W.Write.contents c.args.to.now)

pub loop-number-preserved : goal.loop-number-preserved
loop-number-preserved g c =
    let survey = c.args.survey.now in
    let plan = c.args.declared.plan.now in
    let bus = c.args.declared.bus in
    let lines = λ (instance : ℕ). line_of (instance_difference survey plan bus c.args.address instance) in
    let before = g.W.Write.contents c.loop-number.to in
    let after = g.W.Write.contents c.write_difference.new.to in
    more_lines lines c.loop-number.number (g.W.Write.contents c.args.to.now) before after
    c.loop-number.invariant
    (subst (λ n. Appends before after (lines n)) c.in-Some.ensures.1
    (subst (λ d. Appends before after (line_of d)) c.instance_difference.ensures c.in_ok-write_difference.ensures))

pub returns : goal.returns
returns g c =
    let survey = c.args.survey.now in
    let plan = c.args.declared.plan.now in
    let bus = c.args.declared.bus in
    let lines = λ (instance : ℕ). line_of (instance_difference survey plan bus c.args.address instance) in
    let most : c.loop-number.number ≤ 32 = omega arith in
    all_lines lines c.loop-number.number 32 (g.W.Write.contents c.args.to.now)
    (g.W.Write.contents c.loop-number.to) most c.loop-number-test.false c.loop-number.invariant
