use Rattle.std.proofs.Common.{take, length}
use Rattle.ilnotes.specs.ReadSteps.{AreReads}
use Rattle.ilnotes.proofs.reads.mark_all.Given as goal

abbrev pub invariant-loop-used : goal.invariant-loop-used
invariant-loop-used l = AreReads (take l.used-index l.uses) (length l.initial.read) l.read
