use Rattle.std.proofs.Common.{◌≡◌, length}
use Rattle.iltext.specs.Functions.{inputs}
use Rattle.iltokens.proofs.Loops.{with_front}
use Rattle.iltext.proofs.functions.inputs.Given as goal

abbrev pub invariant-all : goal.invariant-all
invariant-all l = with_front l.all.items (inputs.read l.rest) ≡ inputs.read l.fn.ts

abbrev pub decreases-all : goal.decreases-all
decreases-all l = length l.rest
