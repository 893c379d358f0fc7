use Rattle.std.proofs.Common.{◌≡◌, ◌++◌, take}
use Rattle.std.specs.Prelude.{flat_map}
use Rattle.ildeclared.specs.Declarations.{variables_in}
use Rattle.ildeclared.specs.Kept.{types_in}
use Rattle.ildeclared.proofs.variables.add_declared.Given as goal

abbrev pub invariant-loop-declaration : goal.invariant-loop-declaration
invariant-loop-declaration l =
    l.variables.items
    ≡ l.fn.variables.items ++ flat_map (variables_in (types_in l.fn.lower l.fn.types))
    (take l.declaration-index l.declarations)
