use Rattle.std.proofs.Common.{◌≡◌, take}
use Rattle.std.specs.Prelude.{flat_map}
use Rattle.ildeclared.specs.Globals.{globals_in}
use Rattle.ildeclared.specs.Kept.{types_in}
use Rattle.ildeclared.proofs.globals.globals_of.Given as goal

abbrev pub invariant-loop-declaration : goal.invariant-loop-declaration
invariant-loop-declaration l =
    l.globals.items ≡ flat_map (globals_in (types_in l.fn.lower l.fn.types))
    (take l.declaration-index l.fn.declarations)
