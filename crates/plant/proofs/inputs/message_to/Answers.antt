use Rattle.plantbuses.proofs.Fitting.{fits_there}
use Rattle.plant.proofs.inputs.message_to.Goals as goal

pub returns-clause-in_type : goal.returns-clause-in_type
returns-clause-in_type c =
    let location = c.in_ok-location.location in
    fits_there c.args.plan.now c.args.global c.global.result.now location c.message_value.result
    c.buses-lawful.ensures.lawful
    c.global.ensures.value c.in_ok-location.was c.message_value.ensures.in_type
