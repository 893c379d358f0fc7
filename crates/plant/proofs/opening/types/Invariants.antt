use Rattle.std.proofs.Common.{◌≡◌, map, take}
use Rattle.plant.proofs.opening.types.Given as goal

abbrev pub invariant-loop-global : goal.invariant-loop-global
invariant-loop-global l = l.types.items ≡ map (λ g. g.value_type) (take l.global l.plan.globals)
