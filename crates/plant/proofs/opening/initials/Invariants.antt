use Rattle.std.proofs.Common.{◌≡◌, map, take}
use Rattle.plant.proofs.opening.initials.Given as goal

abbrev pub invariant-loop-global : goal.invariant-loop-global
invariant-loop-global l = l.values.items ≡ map (λ g. g.initial) (take l.global l.plan.globals)
