use Rattle.plantdriving.specs.Order.{scans_at}
use Rattle.plantdriving.specs.Tellings.{HasToldAll}
use Rattle.plantdriving.specs.TurnSteps.{GoesOn, HasTurned, IsScanStep}
use Rattle.plantdriving.proofs.scanning.scan_all.Given as goal

abbrev pub invariant-loop : goal.invariant-loop
invariant-loop g l =
    record {
      step : IsScanStep l.fn.plant l.plant;
      goes_on : GoesOn scans_at scans_at l.fn.plant l.plant;
      turned : HasTurned l.fn.plant l.plant l.counter l.any;
      told : HasToldAll l.fn.plant.history l.plant.history (g.O.Observer.told l.fn.observer)
          (g.O.Observer.told l.observer);
    }
