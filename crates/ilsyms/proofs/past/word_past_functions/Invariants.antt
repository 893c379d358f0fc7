use Rattle.std.proofs.Common.{length}
use Rattle.ilsyms.specs.FunctionSteps.{IsPast}
use Rattle.ilsyms.proofs.MarkedFunctions.{so_far}
use Rattle.ilsyms.proofs.past.word_past_functions.Given as goal

abbrev pub invariant-loop-is_used : goal.invariant-loop-is_used
invariant-loop-is_used l = IsPast (so_far (λ one. one.words) l.used l.needs (length l.yielded)) l.left l.past
