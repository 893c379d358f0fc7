use Rattle.std.proofs.Common.{◌≡◌, ◌++◌, map, take}
use Rattle.ilsyms.proofs.needs.push_places.Given as goal

abbrev pub invariant-loop-variable : goal.invariant-loop-variable
invariant-loop-variable l =
    l.places.items ≡ l.initial.places.items ++ map (λ v. v.name.from) (take l.variable-index l.variables)
