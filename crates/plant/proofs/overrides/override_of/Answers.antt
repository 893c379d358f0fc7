use Rattle.std.proofs.Common.{Some}
use Rattle.plantbuses.proofs.Fitting.{fits_there}
use Rattle.plant.proofs.overrides.override_of.Goals as goal

pub returns-clause-in_type : goal.returns-clause-in_type
returns-clause-in_type c =
    fits_there c.args.plan.now c.args.global c.global.result.now c.in_ok-location.location (Some c.in_ok-value.value)
    c.buses-lawful.ensures.lawful c.global.ensures.value c.in_ok-location.was c.in_ok-value.ensures.in_type
