use Rattle.std.proofs.Common.{◌≡◌, Some, slice_get}
use Rattle.simbus.specs.Simulated.{Simulated}
use Rattle.plantrun.specs.Runs.{IsRun}
use Rattle.refusalsplant.proofs.Results.{if_ok}
use Rattle.refusalsplant.proofs.runs.first_bus_has_number_0.Goals as goal

pub returns : goal.returns
returns g c =
    if_ok (IsRun c.args.setup c.args.scenario.now 2 1000)
    (λ left. (bus : Simulated) → slice_get left.buses.items 0 ≡ Some bus → bus.log.number ≡ 0) c.run.result
    c.run.ensures.run (λ left is bus there. (is.buses 0 bus there).number)
