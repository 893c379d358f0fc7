use Rattle.plant.proofs.Indexed.{AreInputsBelow}
use Rattle.plant.proofs.index.bus_inputs.Given as goal

abbrev pub invariant-loop-global : goal.invariant-loop-global
invariant-loop-global l = AreInputsBelow l.plan l.bus l.numbers.items l.global
