use Rattle.std.proofs.Common.{◌≡◌, ◌<◌, ℕ, length, drop}
use Rattle.std.specs.Prelude.{if◌then◌else◌}
use Rattle.std.specs.List.{list_any}
use Rattle.plantevents.specs.Plants.{externals_from, stores_global}
use Rattle.plantbuses.specs.OutputSteps.{is_store_of, kind_in}
use Rattle.plantbuses.proofs.storing.note_task.Given as goal

-- with what the slots that are left add, all is noted that the task stores to
abbrev pub invariant-loop-number : goal.invariant-loop-number
invariant-loop-number l = record {
  many : length l.kinds.items ≡ length l.fn.kinds.items;
  each : (g : ℕ) → g < length l.fn.kinds.items
      → (if list_any (is_store_of g) (externals_from l.task l.number (drop l.number l.task.slots)) then l.kind
      else kind_in l.kinds.items g)
      ≡ (if stores_global l.task g then l.kind else kind_in l.fn.kinds.items g);
}
