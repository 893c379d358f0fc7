use Rattle.std.proofs.Common.{◌≡◌, ◌++◌, map, take}
use Rattle.ilcompile.proofs.bodies.push_own_types.Given as goal

abbrev pub invariant-loop-input : goal.invariant-loop-input
invariant-loop-input l =
    l.types.items ≡ l.initial.types.items ++ map (λ i. i.value_type) (take l.input-index l.input-items)
