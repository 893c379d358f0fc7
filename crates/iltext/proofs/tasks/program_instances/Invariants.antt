use Rattle.std.proofs.Common.{◌≡◌, length}
use Rattle.iltext.specs.Tasks.{program_instances}
use Rattle.iltokens.proofs.Loops.{with_front}
use Rattle.iltext.proofs.tasks.program_instances.Given as goal

abbrev pub invariant-all : goal.invariant-all
invariant-all l = with_front l.all.items (program_instances.read l.rest) ≡ program_instances.read l.fn.ts

abbrev pub decreases-all : goal.decreases-all
decreases-all l = length l.rest
