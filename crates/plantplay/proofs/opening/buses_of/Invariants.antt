use Rattle.std.specs.Prelude.{◌≡◌}
use Rattle.plantplay.specs.Installations.{buses_of}
use Rattle.plantplay.proofs.opening.buses_of.Given as goal

abbrev pub invariant-loop-bus : goal.invariant-loop-bus
invariant-loop-bus l = l.made.items ≡ buses_of l.scenario l.bus
