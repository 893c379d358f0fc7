use Rattle.std.proofs.Common.{◌≡◌, take}
use Rattle.std.specs.Prelude.{flat_map}
use Rattle.ildeclared.specs.Declarations.{externals_in}
use Rattle.ildeclared.specs.Kept.{types_in}
use Rattle.ildeclared.proofs.externals.externals_of.Given as goal

abbrev pub invariant-loop-declaration : goal.invariant-loop-declaration
invariant-loop-declaration l =
    l.externals.items ≡ flat_map (externals_in (types_in l.fn.lower l.fn.types))
    (take l.declaration-index l.fn.program.declarations)
