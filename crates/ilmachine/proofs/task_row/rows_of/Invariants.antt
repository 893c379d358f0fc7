use Rattle.std.proofs.Common.{◌≡◌, map, take}
use Rattle.ilmachine.specs.TaskRows.{ready_task}
use Rattle.ilmachine.proofs.task_row.rows_of.Given as goal

abbrev pub invariant-loop-task : goal.invariant-loop-task
invariant-loop-task l = l.rows.items ≡ map (ready_task l.globals) (take l.task-index l.tasks)
