use Rattle.std.proofs.Common.{◌≡◌, ◌++◌, map, take}
use Rattle.ilcompile.proofs.bodies.push_variable_types.Given as goal

abbrev pub invariant-loop-variable : goal.invariant-loop-variable
invariant-loop-variable l =
    l.types.items ≡ l.initial.types.items ++ map (λ v. v.value_type) (take l.variable-index l.variables)
