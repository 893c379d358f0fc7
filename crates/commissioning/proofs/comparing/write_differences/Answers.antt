use Rattle.commissioning.specs.Differences.{device_lines, gear_difference, group_difference, line_of, lines_below}
use Rattle.commissioning.proofs.Appending.{refused}
use Rattle.commissioning.proofs.Numbering.{three_appended}
use Rattle.commissioning.proofs.comparing.write_differences.Goals as goal

pub returns : goal.returns
returns g c =
    let survey = c.args.survey.now in
    let plan = c.args.declared.plan.now in
    let bus = c.args.declared.bus in
    three_appended c.compare_devices.result (g.W.Write.contents c.args.to.now)
    (g.W.Write.contents c.compare_all_gear.new.to) (g.W.Write.contents c.compare_groups.new.to)
    (g.W.Write.contents c.compare_devices.new.to)
    (lines_below (λ gear. line_of (gear_difference survey plan bus gear)) 64)
    (lines_below (λ group. line_of (group_difference survey plan bus group)) 16)
    (lines_below (device_lines survey plan bus) 64)
    c.in_ok-compare_all_gear.ensures c.in_ok-compare_groups.ensures c.compare_devices.ensures

pub returns-in_err-compare_all_gear : goal.returns-in_err-compare_all_gear
returns-in_err-compare_all_gear g c = refused c.from_residual.result _ _ c.from_residual.ensures.1

pub returns-in_err-compare_groups : goal.returns-in_err-compare_groups
returns-in_err-compare_groups g c = refused c.from_residual-in_err-compare_groups.result _ _ c.from_residual-in_err-compare_groups.ensures.1
