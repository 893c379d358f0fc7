use Rattle.std.proofs.Common.{◌≡◌, ℕ, take, length, Vec, Global}
use Rattle.std.specs.Prelude.{slice_get, ◌==◌, ◌&&◌, ◌||◌}
use Rattle.ilmachine.specs.declared.slots.TaskSlot.{TaskSlot}
use Rattle.ilmachine.specs.RowSteps.{is_global, has_slot, slots_at, lists_of}
use Rattle.ilmachine.proofs.index.add_task.Given as goal

-- the slots that were there, and those of the globals so far
abbrev pub invariant-loop-slot : goal.invariant-loop-slot
invariant-loop-slot l =
    record {
      added : (global other slot : ℕ)
          → has_slot (slots_at (lists_of (λ (v : Vec TaskSlot Global). v.items) l.index.items) global) other slot
          ≡ (has_slot (slots_at (lists_of (λ (v : Vec TaskSlot Global). v.items) l.fn.index.items) global) other slot
          || (l.task == other && is_global global (slice_get (take l.slot l.externals) slot)));
      each : length l.index.items ≡ length l.fn.index.items;
    }
