use Rattle.std.proofs.Common.{◌+◌, ◌≤◌, length}
use Rattle.plantdriving.specs.Tellings.{HasToldAll}
use Rattle.plantdriving.specs.TurnSteps.{IsBusStep, IsHearing}
use Rattle.plantdriving.proofs.serving.hear_all.Given as goal

abbrev pub invariant-loop : goal.invariant-loop
invariant-loop g l =
    record {
      step : IsBusStep l.fn.bus l.fn.plant l.plant (g.B.Bus.log l.fn.line) (g.B.Bus.log l.line);
      only : IsHearing l.fn.bus l.fn.plant l.plant;
      long : l.counter + length l.fn.plant.history ≤ length l.plant.history;
      told : HasToldAll l.fn.plant.history l.plant.history (g.O.Observer.told l.fn.observer)
          (g.O.Observer.told l.observer);
    }
