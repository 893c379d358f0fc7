use Rattle.std.proofs.Common.{ℕ, ◌≤◌, subst, arith}
use Rattle.std.specs.Io.KnownBytes.{Appends}
use Rattle.commissioning.specs.Differences.{group_difference, line_of}
use Rattle.commissioning.proofs.Appending.{appends_nothing, refused}
use Rattle.commissioning.proofs.Numbering.{all_lines, more_lines}
use Rattle.commissioning.proofs.comparing.compare_groups.Goals as goal

pub loop-group-init : goal.loop-group-init
loop-group-init g c = appends_nothing (g.W.Write.contents c.args.to.now)

pub loop-group-preserved : goal.loop-group-preserved
loop-group-preserved g c =
    let survey = c.args.survey.now in
    let plan = c.args.declared.plan.now in
    let bus = c.args.declared.bus in
    let lines = λ (group : ℕ). line_of (group_difference survey plan bus group) in
    let before = g.W.Write.contents c.loop-group.to in
    let after = g.W.Write.contents c.write_difference.new.to in
    more_lines lines c.loop-group.group (g.W.Write.contents c.args.to.now) before after
    c.loop-group.invariant
    (subst (λ d. Appends before after (line_of d)) c.group_difference.ensures c.in_ok-write_difference.ensures)

pub returns : goal.returns
returns g c =
    let survey = c.args.survey.now in
    let plan = c.args.declared.plan.now in
    let bus = c.args.declared.bus in
    let lines = λ (group : ℕ). line_of (group_difference survey plan bus group) in
    let most : c.loop-group.group ≤ 16 = omega arith in
    all_lines lines c.loop-group.group 16 (g.W.Write.contents c.args.to.now)
    (g.W.Write.contents c.loop-group.to) most c.loop-group-test.false c.loop-group.invariant

pub returns-in_err-write_difference : goal.returns-in_err-write_difference
returns-in_err-write_difference g c = refused c.from_residual.result _ _ c.from_residual.ensures.1
