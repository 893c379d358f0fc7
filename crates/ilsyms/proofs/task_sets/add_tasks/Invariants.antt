use Rattle.std.proofs.Common.{◌≡◌, ℕ, take}
use Rattle.std.specs.Prelude.{option_map, slice_get}
use Rattle.ilsyms.specs.TaskSetSteps.{with_tasks}
use Rattle.ilsyms.proofs.task_sets.add_tasks.Given as goal

abbrev pub invariant-loop-number : goal.invariant-loop-number
invariant-loop-number l =
    (number : ℕ)
    → slice_get l.sets number
    ≡ option_map (with_tasks (take l.number-index l.numbers) l.tasks number) (slice_get l.initial.sets number)
