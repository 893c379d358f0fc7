use Rattle.plantdriving.specs.Order.{sends_at}
use Rattle.plantdriving.specs.Tellings.{HasToldAll}
use Rattle.plantdriving.specs.TurnSteps.{GoesOn, HasTurned, IsBusStep}
use Rattle.plantdriving.proofs.serving.send_all.Given as goal

abbrev pub invariant-loop : goal.invariant-loop
invariant-loop g l =
    record {
      step : IsBusStep l.fn.bus l.fn.plant l.plant (g.B.Bus.log l.fn.line) (g.B.Bus.log l.line);
      goes_on : GoesOn (sends_at l.fn.bus) (sends_at l.fn.bus) l.fn.plant l.plant;
      turned : HasTurned l.fn.plant l.plant l.counter l.any;
      told : HasToldAll l.fn.plant.history l.plant.history (g.O.Observer.told l.fn.observer)
          (g.O.Observer.told l.observer);
    }
