use Rattle.std.specs.Prelude.{◌≡◌}
use Rattle.plantdriving.specs.Downs.{has_down}
use Rattle.plantdriving.proofs.downs.has_down.Given as goal

abbrev pub invariant-loop-bus : goal.invariant-loop-bus
invariant-loop-bus l = l.any ≡ has_down l.bus l.plant.history
