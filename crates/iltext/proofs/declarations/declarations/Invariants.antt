use Rattle.std.proofs.Common.{◌≡◌, length}
use Rattle.iltext.specs.Declarations.{declarations}
use Rattle.iltokens.proofs.Loops.{with_front}
use Rattle.iltext.proofs.declarations.declarations.Given as goal

abbrev pub invariant-all : goal.invariant-all
invariant-all l = with_front l.all.items (declarations.read l.rest) ≡ declarations.read l.fn.ts

abbrev pub decreases-all : goal.decreases-all
decreases-all l = length l.rest
