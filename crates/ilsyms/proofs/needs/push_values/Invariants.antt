use Rattle.std.proofs.Common.{◌≡◌, ◌++◌, map, take}
use Rattle.ilsyms.specs.FunctionSteps.{begins_with}
use Rattle.ilsyms.proofs.needs.push_values.Given as goal

abbrev pub invariant-loop-variable : goal.invariant-loop-variable
invariant-loop-variable l =
    l.uses.items ≡ l.initial.uses.items ++ map (begins_with l.function) (take l.variable-index l.variables)
