-- The line that is printed of a task whose code is refused (profile).
use Rattle.std.specs.Prelude.{ℕ, List, [], ◌++◌, Option, Some, None, codes, slice_get}
use Rattle.ilplan.specs.Plans.{PlannedTask}
use Rattle.ilverify.specs.Printed.{printed}
use Rattle.plantload.specs.RefusedTasks.{Refused}

-- the name of a task, as declared
abbrev pub name_of : Option PlannedTask → List ℕ
name_of (Some task) = task.name
name_of None = []

abbrev pub printed_refused : Refused → List ℕ
printed_refused refused =
    codes "task " ++ name_of (slice_get refused.plan.tasks refused.task) ++ codes " " ++ printed refused.refusal
