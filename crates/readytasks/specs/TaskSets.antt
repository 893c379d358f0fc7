-- What is kept of tasks, and that it is what a history says of them (IEC 61131-3, 2.7.2, and profile).
use Rattle.std.specs.Prelude.{◌≡◌, ℕ, ◌<◌, ◌≤◌, ⊤, Bool, true, false, List, [], length, slice_get, slice_index_or}
use Rattle.std.specs.Prelude.{Option, Some, None}
use Rattle.plantevents.specs.declared.activator.Activator.{Activator}
use Rattle.plantevents.specs.declared.activator.Activator.TheVariants.{Interval, Messages}
use Rattle.plantevents.specs.declared.activator.PendingEvent.{PendingEvent}
use Rattle.plantevents.specs.declared.event.Event.{Event}
use Rattle.plantevents.specs.Plants.{Plant, activator, priority}
use Rattle.plantevents.specs.Histories.{moment, message_count, is_scanned}
use Rattle.plantevents.specs.Readiness.{last_take, pending, lost, ready, since}
use Rattle.readytasks.specs.declared.setup.TaskSetup.{TaskSetup}

-- ---- what tasks are declared with

-- an interval has 1 millisecond or more
abbrev pub HasInterval : Option Activator → Type 0
HasInterval (Some (Interval milliseconds)) = 1 ≤ milliseconds
HasInterval (Some (Messages bus source first)) = ⊤
HasInterval None = ⊤

-- what task t of a plant is declared with
abbrev pub setup_of : Plant → ℕ → TaskSetup
setup_of p t = record { activator = activator p t; priority = priority p t }

-- these are the tasks of the plant, in declared order
pub record AreSetups (p : Plant) (setups : List TaskSetup) : Type 0 where
  pub count : length setups ≡ length p.plan.tasks
  pub each : (t : ℕ) → t < length setups → slice_get setups t ≡ Some (setup_of p t)

-- ---- one task

-- what is kept of one task
pub record KeptTask : Type 0 where
  pub setup : TaskSetup
  pub last_take : Option ℕ
  pub pending : List PendingEvent
  pub count : ℕ
  pub lost : ℕ
  pub since : ℕ
  pub is_scanned : Bool

-- the count of its source, if messages activate it
abbrev pub count_for : Option Activator → List Event → ℕ
count_for (Some (Messages bus source first)) h = message_count first bus source h
count_for _ h = 0

-- What is kept of task t, which is declared so, is what the history says of it; each event that was lost is one of the
-- history. Since when it is ready is kept only while it is.
pub record TaskFollows (setup : TaskSetup) (t : ℕ) (h : List Event) (task : KeptTask) : Type 0 where
  pub declared_so : task.setup ≡ setup
  pub last_take : task.last_take ≡ last_take t h
  pub pending : task.pending ≡ pending setup.activator t h
  pub count : task.count ≡ count_for setup.activator h
  pub lost : task.lost ≡ lost setup.activator t h
  pub few : task.lost ≤ length h
  pub since : ready setup.activator t h ≡ true → task.since ≡ since setup.activator t h
  pub is_scanned : task.is_scanned ≡ is_scanned t h

-- ---- all tasks

-- the moment, and what is kept of each task
pub record TaskSet : Type 0 where
  pub moment : ℕ
  pub tasks : List KeptTask

-- what stands past the end of a list
abbrev pub no_task : KeptTask
no_task =
    record {
      setup = record { activator = None; priority = 0 };
      last_take = None;
      pending = [];
      count = 0;
      lost = 0;
      since = 0;
      is_scanned = false;
    }

abbrev pub task_at : List KeptTask → ℕ → KeptTask
task_at tasks t = slice_index_or tasks t no_task

-- the set is what the history says of the plant's tasks
pub record Follows (p : Plant) (h : List Event) (set : TaskSet) : Type 0 where
  pub moment : set.moment ≡ moment h
  pub count : length set.tasks ≡ length p.plan.tasks
  pub each : (t : ℕ) → t < length p.plan.tasks → TaskFollows (setup_of p t) t h (task_at set.tasks t)
