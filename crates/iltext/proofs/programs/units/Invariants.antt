use Rattle.std.proofs.Common.{◌≡◌, length}
use Rattle.iltokens.specs.Items.{many}
use Rattle.iltokens.specs.Results.{extend}
use Rattle.iltext.specs.Declarations.{flat}
use Rattle.iltext.specs.Texts.{unit, units}
use Rattle.iltext.proofs.programs.units.Given as goal

abbrev pub invariant-all : goal.invariant-all
invariant-all l = extend flat l.all.items ((many unit).read l.rest) ≡ units.read l.fn.ts

abbrev pub decreases-all : goal.decreases-all
decreases-all l = length l.rest
