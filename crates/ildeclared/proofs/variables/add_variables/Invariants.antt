use Rattle.std.proofs.Common.{◌≡◌, ◌++◌, map, take}
use Rattle.ildeclared.specs.Declarations.{variable}
use Rattle.ildeclared.proofs.variables.add_variables.Given as goal

abbrev pub invariant-loop-name : goal.invariant-loop-name
invariant-loop-name l =
    l.variables.items ≡ l.fn.variables.items ++ map (variable l.fn.declared) (take l.name-index l.names)
