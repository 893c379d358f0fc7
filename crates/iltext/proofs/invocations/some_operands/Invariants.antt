use Rattle.std.proofs.Common.{◌≡◌, length}
use Rattle.iltext.specs.Invocations.{more_operands, some_operands}
use Rattle.iltokens.proofs.Loops.{with_front}
use Rattle.iltext.proofs.invocations.some_operands.Given as goal

abbrev pub invariant-more : goal.invariant-more
invariant-more l = with_front l.all.items (more_operands.read l.rest) ≡ some_operands.read l.fn.ts

abbrev pub decreases-more : goal.decreases-more
decreases-more l = length l.rest
