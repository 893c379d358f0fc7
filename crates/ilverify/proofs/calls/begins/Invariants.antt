use Rattle.ilcode.specs.Listings.{end_of}
use Rattle.ilverify.proofs.Chains.{NoneBefore}
use Rattle.ilverify.proofs.calls.begins.Given as goal

abbrev pub invariant-loop-place : goal.invariant-loop-place
invariant-loop-place l = NoneBefore l.code l.calls (end_of l.code l.function) l.place
