use Rattle.std.proofs.Common.{◌≡◌, take}
use Rattle.std.specs.Prelude.{flat_map}
use Rattle.ildeclared.specs.Declarations.{blocks_in}
use Rattle.ildeclared.proofs.blocks.blocks_of.Given as goal

abbrev pub invariant-loop-declaration : goal.invariant-loop-declaration
invariant-loop-declaration l = l.blocks.items ≡ flat_map blocks_in (take l.declaration-index l.fn.program.declarations)
