use Rattle.std.proofs.Common.{◌≡◌, [], replicate, Vec, Global}
use Rattle.ilmachine.specs.declared.slots.TaskSlot.{TaskSlot}
use Rattle.ilmachine.specs.RowSteps.{lists_of}
use Rattle.ilmachine.proofs.index.empty_index.Given as goal

abbrev pub invariant-loop-global : goal.invariant-loop-global
invariant-loop-global l = lists_of (λ (v : Vec TaskSlot Global). v.items) l.index.items ≡ replicate l._global []
