use Rattle.std.proofs.Common.{◌≡◌, ℕ, take, length, Vec, Global}
use Rattle.ilmachine.specs.declared.slots.TaskSlot.{TaskSlot}
use Rattle.ilmachine.specs.RowSteps.{layouts_of, names, has_slot, slots_at, lists_of}
use Rattle.ilmachine.proofs.index.index_of.Given as goal

-- the slots of the tasks so far
abbrev pub invariant-loop-task : goal.invariant-loop-task
invariant-loop-task l =
    record {
      slots : (global task slot : ℕ)
          → has_slot (slots_at (lists_of (λ (v : Vec TaskSlot Global). v.items) l.index.items) global) task slot
          ≡ names (take l.task (layouts_of l.tasks)) task slot global;
      each : length l.index.items ≡ l.globals;
    }
