use Rattle.std.proofs.Common.{◌≡◌}
use Rattle.simbus.proofs.ScenarioSetups.{gear_declared}
use Rattle.simbus.proofs.setups.gear_on.Goals as goal

pub returns-in-Gear : goal.returns-in-Gear
returns-in-Gear c =
    let same : c.in-Gear.on ≡ c.args.bus = cc in
    gear_declared c.args.bus c.args.statements.now c.args.statement.now c.in-Gear.on c.in-Gear.short
    c.in-Gear.start c.gear_with_lamp.result
    c.in-Gear.is same c.gear_with_lamp.ensures
