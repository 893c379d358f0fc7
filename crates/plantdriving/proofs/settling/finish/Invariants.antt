use Rattle.std.proofs.Common.{◌+◌, ◌≤◌, length, map}
use Rattle.plantdriving.specs.Driven.{IsDriven}
use Rattle.plantdriving.specs.Order.{scans_at}
use Rattle.plantdriving.specs.Tellings.{HasToldAll}
use Rattle.plantdriving.specs.TurnSteps.{GoesOn}
use Rattle.plantdriving.proofs.settling.finish.Given as goal

abbrev pub invariant-loop : goal.invariant-loop
invariant-loop g l =
    record {
      driven : IsDriven l.fn.plant l.plant (map g.B.Bus.log l.fn.lines.items) (map g.B.Bus.log l.lines.items);
      goes_on : GoesOn scans_at scans_at l.fn.plant l.plant;
      long : l.counter + length l.fn.plant.history ≤ length l.plant.history;
      told : HasToldAll l.fn.plant.history l.plant.history (g.O.Observer.told l.fn.observer)
          (g.O.Observer.told l.observer);
    }
