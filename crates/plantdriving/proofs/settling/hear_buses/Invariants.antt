use Rattle.std.proofs.Common.{map}
use Rattle.plantdriving.specs.Tellings.{HasToldAll}
use Rattle.plantdriving.specs.TurnSteps.{HaveHeard}
use Rattle.plantdriving.proofs.settling.hear_buses.Given as goal

abbrev pub invariant-loop-bus : goal.invariant-loop-bus
invariant-loop-bus g l =
    record {
      heard : HaveHeard l.fn.plant l.plant (map g.B.Bus.log l.fn.lines.items) (map g.B.Bus.log l.lines.items) l.bus;
      told : HasToldAll l.fn.plant.history l.plant.history (g.O.Observer.told l.fn.observer)
          (g.O.Observer.told l.observer);
    }
