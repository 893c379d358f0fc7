-- What private functions say: which tasks are ready, and which goes next, by what is kept.
use Rattle.std.specs.Prelude.{ℕ, Bool, not, ◌&&◌, List, slice_index_or, Option, Some, None}
use Rattle.plantevents.specs.declared.activator.Activator.{Activator}
use Rattle.plantevents.specs.declared.activator.Activator.TheVariants.{Messages}
use Rattle.dalievent.specs.Messages.{information}
use Rattle.plantevents.specs.Choices.{Rank}
use Rattle.plantevents.specs.Readiness.{ready_by}
use Rattle.readytasks.specs.declared.setup.TaskSetup.{TaskSetup}
use Rattle.readytasks.specs.TaskSets.{KeptTask, task_at}

-- the information of a message for such a task
abbrev pub information_for : Option Activator → ℕ → ℕ
information_for (Some (Messages bus source first)) frame = information source frame
information_for _ frame = 0

-- the task is ready at this moment
abbrev pub is_ready : KeptTask → ℕ → Bool
is_ready task moment = ready_by task.setup.activator moment task.last_take task.pending

-- it is ready, and no scan of it is open
abbrev pub is_free_task : KeptTask → ℕ → Bool
is_free_task task moment = is_ready task moment && not task.is_scanned

-- of the task of this number
abbrev pub is_free_at : List KeptTask → ℕ → ℕ → Bool
is_free_at tasks moment t = is_free_task (task_at tasks t) moment

abbrev pub rank_at : List KeptTask → ℕ → Rank
rank_at tasks t =
    record { priority = (task_at tasks t).setup.priority; since = (task_at tasks t).since; number = t }

-- what stands past the end of a list
abbrev pub no_setup : TaskSetup
no_setup = record { activator = None; priority = 0 }

abbrev pub setup_at : List TaskSetup → ℕ → TaskSetup
setup_at setups t = slice_index_or setups t no_setup
