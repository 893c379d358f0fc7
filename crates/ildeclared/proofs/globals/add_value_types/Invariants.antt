use Rattle.std.proofs.Common.{◌≡◌, ◌++◌, map, take}
use Rattle.ildeclared.specs.Globals.{type_of_each}
use Rattle.ildeclared.proofs.globals.add_value_types.Given as goal

abbrev pub invariant-loop : goal.invariant-loop
invariant-loop l =
    l.value_types.items ≡ l.fn.value_types.items ++ map (type_of_each l.fn.value_type) (take l.index l.names)
