use Rattle.std.proofs.Common.{◌≡◌, ℕ, drop}
use Rattle.std.specs.Prelude.{slice_get, option_map}
use Rattle.ilmachine.specs.RowSteps.{task_with, layouts_of}
use Rattle.ilmachine.proofs.row_writes.write_slots.Given as goal

-- writing into the slots that are left makes of the tasks what writing into all does
abbrev pub invariant-loop-one : goal.invariant-loop-one
invariant-loop-one l =
    record {
      written : (task : ℕ)
          → option_map (task_with (drop l.one-index l.slots) l.value task) (slice_get l.tasks.items task)
          ≡ option_map (task_with l.slots l.value task) (slice_get l.fn.tasks.items task);
      layouts : layouts_of l.tasks.items ≡ layouts_of l.fn.tasks.items;
    }
