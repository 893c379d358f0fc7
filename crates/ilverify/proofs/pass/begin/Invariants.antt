use Rattle.ilverify.specs.PassSteps.{HaveBegun}
use Rattle.ilverify.proofs.pass.begin.Given as goal

abbrev pub invariant-loop-body : goal.invariant-loop-body
invariant-loop-body l = HaveBegun l.code l.body l.pending.items
