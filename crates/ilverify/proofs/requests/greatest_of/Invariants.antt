use Rattle.ilverify.proofs.MostRequests.{AreCounted}
use Rattle.ilverify.proofs.requests.greatest_of.Given as goal

abbrev pub invariant-loop-place : goal.invariant-loop-place
invariant-loop-place l = AreCounted l.code l.place l.greatest
