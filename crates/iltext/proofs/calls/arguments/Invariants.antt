use Rattle.std.proofs.Common.{◌≡◌, length}
use Rattle.iltext.specs.Calls.{more_arguments, arguments}
use Rattle.iltokens.proofs.Loops.{with_front}
use Rattle.iltext.proofs.calls.arguments.Given as goal

abbrev pub invariant-more : goal.invariant-more
invariant-more l =
    with_front l.all.items ((more_arguments l.fn.block).read l.rest) ≡ (arguments l.fn.block).read l.fn.ts

abbrev pub decreases-more : goal.decreases-more
decreases-more l = length l.rest
