use Rattle.plant.specs.InputSteps.{input_at}
use Rattle.plant.proofs.GivenInputs.{AreGiven}
use Rattle.plant.proofs.inputs.write_message.Given as goal

abbrev pub invariant-loop-i : goal.invariant-loop-i
invariant-loop-i l = AreGiven (input_at l.plan l.counts l.bus l.frame) l.fn.image l.image l.numbers l.i
