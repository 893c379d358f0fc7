use Rattle.std.proofs.Common.{◌≡◌, ◌++◌, drop}
use Rattle.ilmachine.specs.Images.{stored_from, stored_slots}
use Rattle.ilmachine.proofs.task_row.stores_of.Given as goal

-- the slots so far, and then those of the globals that are left
abbrev pub invariant-loop-slot : goal.invariant-loop-slot
invariant-loop-slot l = l.stores.items ++ stored_from l.slot (drop l.slot l.externals) ≡ stored_slots l.externals
