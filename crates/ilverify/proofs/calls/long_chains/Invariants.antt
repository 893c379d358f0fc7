use Rattle.ilverify.specs.CallSteps.{AreChains}
use Rattle.ilverify.proofs.calls.long_chains.Given as goal

abbrev pub invariant-loop-calls : goal.invariant-loop-calls
invariant-loop-calls l = AreChains l.code l.calls l.chains.items
