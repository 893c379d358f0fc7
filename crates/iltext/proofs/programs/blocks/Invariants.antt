use Rattle.std.proofs.Common.{◌≡◌, length}
use Rattle.iltokens.specs.Items.{many}
use Rattle.iltokens.specs.Results.{extend}
use Rattle.iltext.specs.Declarations.{variables, flat}
use Rattle.iltext.specs.Texts.{blocks}
use Rattle.iltext.proofs.programs.blocks.Given as goal

abbrev pub invariant-all : goal.invariant-all
invariant-all l = extend flat l.all.items ((many variables).read l.rest) ≡ blocks.read l.fn.ts

abbrev pub decreases-all : goal.decreases-all
decreases-all l = length l.rest
