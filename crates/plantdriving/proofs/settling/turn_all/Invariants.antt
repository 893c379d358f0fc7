use Rattle.std.proofs.Common.{map}
use Rattle.plantdriving.specs.Driven.{IsDriven}
use Rattle.plantdriving.specs.Order.{sends_at}
use Rattle.plantdriving.specs.Tellings.{HasToldAll}
use Rattle.plantdriving.specs.TurnSteps.{GoesOn, HaveTurned}
use Rattle.plantdriving.proofs.settling.turn_all.Given as goal

abbrev pub invariant-loop-bus : goal.invariant-loop-bus
invariant-loop-bus g l =
    record {
      driven : IsDriven l.fn.plant l.plant (map g.B.Bus.log l.fn.lines.items) (map g.B.Bus.log l.lines.items);
      goes_on : GoesOn (sends_at 0) (sends_at l.bus) l.fn.plant l.plant;
      turned : HaveTurned l.fn.plant l.plant (map g.B.Bus.log l.fn.lines.items) (map g.B.Bus.log l.lines.items)
          l.bus l.any;
      told : HasToldAll l.fn.plant.history l.plant.history (g.O.Observer.told l.fn.observer)
          (g.O.Observer.told l.observer);
    }
