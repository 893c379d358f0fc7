use Rattle.std.proofs.Common.{◌≡◌, take}
use Rattle.std.specs.Prelude.{flat_map}
use Rattle.ildeclared.specs.Globals.{value_types_in}
use Rattle.ildeclared.specs.Kept.{types_in}
use Rattle.ildeclared.proofs.globals.value_types_of.Given as goal

abbrev pub invariant-loop-declaration : goal.invariant-loop-declaration
invariant-loop-declaration l =
    l.value_types.items ≡ flat_map (value_types_in (types_in l.fn.lower l.fn.types))
    (take l.declaration-index l.fn.declarations)
