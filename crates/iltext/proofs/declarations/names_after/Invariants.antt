use Rattle.std.proofs.Common.{◌≡◌, length}
use Rattle.iltext.specs.Declarations.{more_names, names_after}
use Rattle.iltokens.proofs.Loops.{with_front}
use Rattle.iltext.proofs.declarations.names_after.Given as goal

abbrev pub invariant-more : goal.invariant-more
invariant-more l = with_front l.names.items (more_names.read l.rest) ≡ (names_after l.fn.first).read l.fn.ts

abbrev pub decreases-more : goal.decreases-more
decreases-more l = length l.rest
