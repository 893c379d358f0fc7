use Rattle.plant.specs.declared.refusal.CallRefusal.TheVariants.{NothingReady}
use Rattle.plant.specs.Refusals.{up_cases}
use Rattle.refusalsplant.proofs.Refusing.{is_not_down, refused}
use Rattle.refusalsplant.proofs.coming_up.bus_that_is_up_does_not_come_up.Goals as goal

pub returns : goal.returns
returns c =
    let plant = c.args.plant.now in
    refused (up_cases plant 0) NothingReady c.up.result c.up.ensures.refused
    (is_not_down plant c.requires.known c.requires.up)
