use Rattle.std.specs.Prelude.{◌+◌}
use Rattle.ilcode.specs.Listings.{end_of}
use Rattle.ilverify.specs.RequestSteps.{AreMost}
use Rattle.ilverify.proofs.requests.most_before.Given as goal

abbrev pub invariant-loop-function : goal.invariant-loop-function
invariant-loop-function l =
    AreMost l.code l.through.items l.most.items (l.function + 1) (end_of l.code (l.function + 1))
