use Rattle.plantbuses.specs.KeptSteps.{AreFresh}
use Rattle.plantbuses.proofs.bus.fresh_buses.Given as goal

abbrev pub invariant-loop : goal.invariant-loop
invariant-loop l = AreFresh l.counter l.states.items
