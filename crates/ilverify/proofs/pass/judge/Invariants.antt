use Rattle.ilverify.specs.PassSteps.{IsFound}
use Rattle.ilverify.proofs.pass.judge.Given as goal

abbrev pub invariant-loop-place : goal.invariant-loop-place
invariant-loop-place l = IsFound l.code l.place l.pending.items
