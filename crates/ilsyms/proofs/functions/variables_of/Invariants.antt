use Rattle.std.proofs.Common.{◌≡◌, map, take}
use Rattle.ilsyms.specs.Resolved.{planned_variable}
use Rattle.ilsyms.proofs.functions.variables_of.Given as goal

abbrev pub invariant-loop-variable : goal.invariant-loop-variable
invariant-loop-variable l = l.planned.items ≡ map planned_variable (take l.variable-index l.variables)
