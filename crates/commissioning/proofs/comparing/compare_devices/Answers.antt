use Rattle.std.proofs.Common.{◌≤◌, subst, arith}
use Rattle.std.specs.Io.KnownBytes.{Appends}
use Rattle.commissioning.specs.Differences.{device_difference, device_lines, instance_difference, line_of, lines_below}
use Rattle.commissioning.proofs.Appending.{appends_both, appends_nothing, refused}
use Rattle.commissioning.proofs.Numbering.{all_lines, more_lines}
use Rattle.commissioning.proofs.comparing.compare_devices.Goals as goal

pub loop-number-init : goal.loop-number-init
loop-number-init g c = appends_nothing (g.W.Write.contents c.args.to.now)

pub loop-number-preserved : goal.loop-number-preserved
loop-number-preserved g c =
    let survey = c.args.survey.now in
    let plan = c.args.declared.plan.now in
    let bus = c.args.declared.bus in
    let before = g.W.Write.contents c.loop-number.to in
    let after = g.W.Write.contents c.compare_instances.new.to in
    more_lines (device_lines survey plan bus) c.loop-number.number (g.W.Write.contents c.args.to.now) before after
    c.loop-number.invariant
    (let between = g.W.Write.contents c.write_difference.new.to in
    let address = c.in-Some.address in
    subst (λ n. Appends before after (device_lines survey plan bus n)) c.in-Some.ensures.1
    (appends_both before between after (line_of (device_difference survey plan bus address))
    (lines_below (λ instance. line_of (instance_difference survey plan bus address instance)) 32)
    (subst (λ d. Appends before between (line_of d)) c.device_difference.ensures c.in_ok-write_difference.ensures)
    c.in_ok-compare_instances.ensures))

pub returns : goal.returns
returns g c =
    let survey = c.args.survey.now in
    let plan = c.args.declared.plan.now in
    let bus = c.args.declared.bus in
    let most : c.loop-number.number ≤ 64 = omega arith in
    all_lines (device_lines survey plan bus) c.loop-number.number 64 (g.W.Write.contents c.args.to.now)
    (g.W.Write.contents c.loop-number.to) most c.loop-number-test.false c.loop-number.invariant

pub returns-in_err-write_difference : goal.returns-in_err-write_difference
returns-in_err-write_difference g c = refused c.from_residual.result _ _ c.from_residual.ensures.1

pub returns-in_err-compare_instances : goal.returns-in_err-compare_instances
returns-in_err-compare_instances g c = refused c.from_residual-in_err-compare_instances.result _ _ c.from_residual-in_err-compare_instances.ensures.1
