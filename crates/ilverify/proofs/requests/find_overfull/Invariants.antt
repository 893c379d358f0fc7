use Rattle.ilverify.proofs.RequestPass.{NoneOverfull}
use Rattle.ilverify.proofs.requests.find_overfull.Given as goal

abbrev pub invariant-loop-place : goal.invariant-loop-place
invariant-loop-place l = NoneOverfull l.code l.place
