use Rattle.std.proofs.Common.{◌≡◌, length}
use Rattle.iltext.specs.Instructions.{lines}
use Rattle.iltokens.proofs.Loops.{with_front}
use Rattle.iltext.proofs.instructions.lines.Given as goal

abbrev pub invariant-all : goal.invariant-all
invariant-all l = with_front l.all.items (lines.read l.rest) ≡ lines.read l.fn.ts

abbrev pub decreases-all : goal.decreases-all
decreases-all l = length l.rest
