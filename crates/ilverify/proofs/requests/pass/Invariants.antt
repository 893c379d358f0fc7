use Rattle.std.specs.Prelude.{◌≤◌}
use Rattle.ilcode.specs.Listings.{end_of}
use Rattle.ilverify.specs.RequestSteps.{AreMost}
use Rattle.ilverify.proofs.requests.pass.Given as goal

abbrev pub invariant-loop-place : goal.invariant-loop-place
invariant-loop-place l = record {
  most : AreMost l.code l.through l.most.items l.body l.place;
  inside : l.place ≤ end_of l.code l.body;
}
