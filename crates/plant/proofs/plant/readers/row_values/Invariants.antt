use Rattle.std.proofs.Common.{◌≡◌, take}
use Rattle.plant.proofs.plant.readers.row_values.Given as goal

-- the values so far
abbrev pub invariant-loop-slot : goal.invariant-loop-slot
invariant-loop-slot l = l.values.items ≡ take l.slot l.row
