use Rattle.std.proofs.Common.{◌≡◌, Some, length, map, drop}
use Rattle.std.specs.Prelude.{slice_get}
use Rattle.ilmachine.specs.Images.{TaskLayout, stored_slots}
use Rattle.ilmachine.specs.TaskRows.{shown, AreReady}
use Rattle.ilmachine.specs.RowSteps.{layouts_of, stored_by}
use Rattle.ilmachine.proofs.scan_writes.store.Given as goal

-- storing from the slots that are left makes of the globals what storing from all does
abbrev pub invariant-loop-number : goal.invariant-loop-number
invariant-loop-number l =
    record {
      stored : (t : TaskLayout) → slice_get (layouts_of l.fn.tasks.items) l.task ≡ Some t
          → stored_by (drop l.number (stored_slots t.externals)) l.row l.globals.items
          ≡ stored_by (stored_slots t.externals) l.row l.fn.globals.items;
      layouts : layouts_of l.tasks.items ≡ layouts_of l.fn.tasks.items;
      shown : map shown l.tasks.items ≡ map shown l.fn.tasks.items;
      ready : AreReady l.globals.items l.tasks.items;
      long : length l.globals.items ≡ length l.fn.globals.items;
    }
