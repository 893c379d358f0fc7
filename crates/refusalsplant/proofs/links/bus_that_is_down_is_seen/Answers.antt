use Rattle.std.proofs.Common.{◌∙◌}
use Rattle.refusalsplant.proofs.Driven.{seen}
use Rattle.refusalsplant.proofs.links.bus_that_is_down_is_seen.Goals as goal

pub returns : goal.returns
returns c =
    let plant = c.args.plant.now in
    c.has_down.ensures ∙ seen plant.plant.plan.buses plant.history c.requires.one c.requires.down
