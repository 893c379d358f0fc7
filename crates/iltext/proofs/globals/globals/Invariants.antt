use Rattle.std.proofs.Common.{◌≡◌, length}
use Rattle.iltext.specs.Globals.{globals}
use Rattle.iltokens.proofs.Loops.{with_front}
use Rattle.iltext.proofs.globals.globals.Given as goal

abbrev pub invariant-all : goal.invariant-all
invariant-all l = with_front l.all.items (globals.read l.rest) ≡ globals.read l.fn.ts

abbrev pub decreases-all : goal.decreases-all
decreases-all l = length l.rest
