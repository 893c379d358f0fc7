use Rattle.ilverify.specs.Tables.{IsFilled}
use Rattle.ilverify.specs.BoundSteps.{longest_from}
use Rattle.ilverify.proofs.bound.fill.Given as goal

abbrev pub invariant-loop-place : goal.invariant-loop-place
invariant-loop-place l = IsFilled l.code 0 (longest_from l.code l.through) l.longest.items l.body l.place
