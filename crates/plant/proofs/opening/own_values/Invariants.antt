use Rattle.std.proofs.Common.{◌≡◌, ◌++◌, drop}
use Rattle.std.specs.Prelude.{filter_map}
use Rattle.plantevents.specs.Plants.{own_by, own_initials}
use Rattle.plant.proofs.opening.own_values.Given as goal

abbrev pub invariant-loop-number : goal.invariant-loop-number
invariant-loop-number l =
    l.values.items ++ filter_map (λ s. own_by s.variable s.initial) (drop l.number l.task.slots) ≡ own_initials l.task
