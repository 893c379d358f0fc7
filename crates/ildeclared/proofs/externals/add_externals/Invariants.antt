use Rattle.std.proofs.Common.{◌≡◌, ◌++◌, map, take}
use Rattle.ildeclared.specs.Declarations.{external}
use Rattle.ildeclared.proofs.externals.add_externals.Given as goal

abbrev pub invariant-loop-name : goal.invariant-loop-name
invariant-loop-name l =
    l.externals.items ≡ l.fn.externals.items ++ map (external l.fn.value_type) (take l.name-index l.names)
