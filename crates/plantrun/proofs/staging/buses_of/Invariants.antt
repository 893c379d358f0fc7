use Rattle.std.specs.Prelude.{◌≡◌}
use Rattle.plantrun.specs.Runs.{buses_of}
use Rattle.plantrun.proofs.staging.buses_of.Given as goal

abbrev pub invariant-loop-bus : goal.invariant-loop-bus
invariant-loop-bus g l = l.made.items ≡ buses_of l.scenario l.bus
