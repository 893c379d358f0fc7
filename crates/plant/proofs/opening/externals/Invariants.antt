use Rattle.std.proofs.Common.{◌≡◌, ◌++◌, drop}
use Rattle.plantevents.specs.Plants.{externals_from, externals_of}
use Rattle.plant.proofs.opening.externals.Given as goal

abbrev pub invariant-loop-number : goal.invariant-loop-number
invariant-loop-number l =
    l.externals.items ++ externals_from l.task l.number (drop l.number l.task.slots) ≡ externals_of l.task
