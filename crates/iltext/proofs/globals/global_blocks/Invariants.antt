use Rattle.std.proofs.Common.{◌≡◌, length}
use Rattle.iltokens.specs.Items.{many}
use Rattle.iltokens.specs.Results.{extend}
use Rattle.iltext.specs.Globals.{var_global, global_blocks}
use Rattle.iltext.specs.Declarations.{flat}
use Rattle.iltext.proofs.globals.global_blocks.Given as goal

abbrev pub invariant-all : goal.invariant-all
invariant-all l = extend flat l.all.items ((many var_global).read l.rest) ≡ global_blocks.read l.fn.ts

abbrev pub decreases-all : goal.decreases-all
decreases-all l = length l.rest
