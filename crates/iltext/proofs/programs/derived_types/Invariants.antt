use Rattle.std.proofs.Common.{◌≡◌, length}
use Rattle.iltext.specs.Texts.{derived_types}
use Rattle.iltokens.proofs.Loops.{with_front}
use Rattle.iltext.proofs.programs.derived_types.Given as goal

abbrev pub invariant-all : goal.invariant-all
invariant-all l = with_front l.all.items (derived_types.read l.rest) ≡ derived_types.read l.fn.ts

abbrev pub decreases-all : goal.decreases-all
decreases-all l = length l.rest
