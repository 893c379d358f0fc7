use Rattle.std.proofs.Common.{◌≡◌, length}
use Rattle.iltext.specs.Tasks.{tasks}
use Rattle.iltokens.proofs.Loops.{with_front}
use Rattle.iltext.proofs.tasks.tasks.Given as goal

abbrev pub invariant-all : goal.invariant-all
invariant-all l = with_front l.all.items (tasks.read l.rest) ≡ tasks.read l.fn.ts

abbrev pub decreases-all : goal.decreases-all
decreases-all l = length l.rest
