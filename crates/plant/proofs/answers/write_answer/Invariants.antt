use Rattle.plantbuses.specs.AnswerSteps.{answer_at}
use Rattle.plant.proofs.GivenInputs.{AreGiven}
use Rattle.plant.proofs.answers.write_answer.Given as goal

abbrev pub invariant-loop-i : goal.invariant-loop-i
invariant-loop-i l = AreGiven (answer_at l.plan l.bus l.origin l.outcome) l.fn.image l.image l.inputs l.i
