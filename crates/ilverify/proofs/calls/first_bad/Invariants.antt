use Rattle.std.specs.Prelude.{◌≤◌}
use Rattle.ilcode.specs.Listings.{start_of, end_of}
use Rattle.ilverify.proofs.Chains.{NoneBad}
use Rattle.ilverify.proofs.calls.first_bad.Given as goal

abbrev pub invariant-loop-body : goal.invariant-loop-body
invariant-loop-body l = NoneBad l.code (start_of l.code l.body)

abbrev pub invariant-loop-place : goal.invariant-loop-place
invariant-loop-place l = NoneBad l.code l.place × (l.place ≤ end_of l.code l.body)
