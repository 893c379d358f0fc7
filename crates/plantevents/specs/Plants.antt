-- What a plant is made of, as its histories speak of it (IEC 61131-3, 2.4.3 and 2.7, and profile).
use Rattle.std.specs.Prelude.{ℕ, pos, ◌+◌, ◌^◌, ◌==◌, ◌&&◌, Bool, false, List, [], ◌∷◌, ◌++◌, map, filter_map, find}
use Rattle.std.specs.Prelude.{slice_get, nat_lt, Option, None, Some, option_map, option_and_then, option_to_list}
use Rattle.std.specs.Prelude.{unwrap_or, if◌then◌else◌}
use Rattle.std.specs.List.{list_any}
use Rattle.iltypes.specs.declared.value.Value.{Value}
use Rattle.iltypes.specs.declared.value.Value.TheVariants as values
use Rattle.ilplan.specs.Wirings.{tries_in}
use Rattle.dalievent.specs.declared.messages.EventSource.{EventSource}
use Rattle.gearcmd.specs.declared.requests.TaskKind as kinds
use Rattle.gearcmd.specs.declared.requests.TaskKind.TheVariants as kind
use Rattle.ilplan.specs.declared.activation.Activation as activations
use Rattle.ilplan.specs.declared.activation.Activation.TheVariants.{Cyclic, Event}
use Rattle.ilplan.specs.declared.global.Global.{Global as GlobalVariable}
use Rattle.ilplan.specs.declared.global.Location.{Location}
use Rattle.ilplan.specs.declared.global.Location.TheVariants.{Level, Count, Trigger}
use Rattle.ilplan.specs.declared.slot.Slot.{Slot}
use Rattle.ilplan.specs.declared.slot.SlotOwner as slots
use Rattle.ilplan.specs.declared.slot.SlotOwner.TheVariants as slot
use Rattle.ilplan.specs.Plans.{Planned, PlannedTask, stores, task_kind}
use Rattle.ilmachine.specs.Verdicts.{Accepted}
use Rattle.ilmachine.specs.declared.external.External.{External}
use Rattle.ilmachine.specs.Images.{ProcessImage, TaskImage, Layout, image_of, layout_of, first_task}
use Rattle.plantevents.specs.declared.activator.Activator.{Activator}
use Rattle.plantevents.specs.declared.activator.Activator.TheVariants.{Interval, Messages}

-- the plan of its text, the verified code of each task, and the number of scan workers
pub record Plant : Type 0 where
  pub plan : Planned
  pub codes : List Accepted
  pub workers : ℕ

-- ---- global variables and sources

-- where the global variable of this number is located
abbrev pub location : Plant → ℕ → Option Location
location p global = option_and_then (λ g. g.location) (slice_get p.plan.globals global)

-- the source of events that is bound at this place of a bus
abbrev pub source_at : Plant → ℕ → ℕ → Option EventSource
source_at p bus number =
    option_map (λ bound. bound.source) (find (λ bound. bound.bus == bus && bound.number == number) p.plan.sources)

-- the value, where it is a count, which has 16 bits, else 0
abbrev pub count_in : Value → ℕ
count_in (values.Int (pos number)) = if nat_lt number (2 ^ 16) then number else 0
count_in _ = 0

abbrev pub is_count_at : ℕ → ℕ → Option Location → Bool
is_count_at bus number (Some (Count b n)) = b == bus && n == number
is_count_at bus number _ = false

-- what the count of the source at this place of a bus begins at: the initial value of the global variable that is located
-- at it, and 0 where none is
abbrev pub first_count : List GlobalVariable → ℕ → ℕ → ℕ
first_count globals bus number =
    unwrap_or (option_map (λ g. count_in g.initial) (find (λ g. is_count_at bus number g.location) globals)) 0

-- the attempts that a bus has for a transaction
abbrev pub tries_of : Plant → ℕ → ℕ
tries_of p bus = tries_in p.plan.tries bus

-- ---- tasks

abbrev pub task_at : Plant → ℕ → Option PlannedTask
task_at p t = slice_get p.plan.tasks t

-- where the trigger of a task is located, if an event starts it
abbrev pub trigger_by : Plant → activations.Activation → Option Location
trigger_by p (Event trigger) = location p trigger
trigger_by p (Cyclic interval) = None

abbrev pub trigger_of : Plant → ℕ → Option Location
trigger_of p t = option_and_then (λ task. trigger_by p task.activation) (task_at p t)

-- the messages of the source whose trigger is located there
abbrev pub messages_at : Plant → Location → Option Activator
messages_at p (Trigger bus number) =
    option_map (λ source. Messages bus source (first_count p.plan.globals bus number)) (source_at p bus number)
messages_at p _ = None

abbrev pub activator_by : Plant → activations.Activation → Option Activator
activator_by p (Cyclic interval) = Some (Interval interval)
activator_by p (Event trigger) = option_and_then (messages_at p) (location p trigger)

-- what activates the task of this number: the clock, or the messages of its trigger's source
abbrev pub activator : Plant → ℕ → Option Activator
activator p t = option_and_then (λ task. activator_by p task.activation) (task_at p t)

abbrev pub priority_of : Option PlannedTask → ℕ
priority_of (Some task) = task.priority
priority_of None = 0

-- its priority, of which 0 is the first
abbrev pub priority : Plant → ℕ → ℕ
priority p t = priority_of (task_at p t)

-- the kind of a task, and without one that of a cyclic task
abbrev pub kind_by : Option PlannedTask → kinds.TaskKind
kind_by task = unwrap_or (option_map (λ t. task_kind t.activation) task) kind.Cyclic

abbrev pub kind_of : Plant → ℕ → kinds.TaskKind
kind_of p t = kind_by (task_at p t)

-- ---- the process image before the first event

-- the global variable in the slot of this number of a task, with whether a program of the task stores to it
abbrev pub external_in : PlannedTask → ℕ → slots.SlotOwner → Option External
external_in task number (slot.Global global) = Some (record { global = global; stored = stores task number })
external_in task number (slot.Own instance name) = None

abbrev pub externals_from : PlannedTask → ℕ → List Slot → List External
externals_from task number [] = []
externals_from task number (s ∷ more) =
    option_to_list (external_in task number s.variable) ++ externals_from task (number + 1) more

-- the global variables that a task names, in the order of its slots
abbrev pub externals_of : PlannedTask → List External
externals_of task = externals_from task 0 task.slots

-- the initial value of a slot, where it is an own variable of the task
abbrev pub own_by : slots.SlotOwner → Value → Option Value
own_by (slot.Global global) initial = None
own_by (slot.Own instance name) initial = Some initial

abbrev pub own_initials : PlannedTask → List Value
own_initials task = filter_map (λ s. own_by s.variable s.initial) task.slots

-- each task with its code: its own variables at their initial values, its block instances as the plan has them
abbrev pub first_tasks : List PlannedTask → List Accepted → List TaskImage
first_tasks (task ∷ tasks) (code ∷ codes) =
    first_task code (externals_of task) (own_initials task) task.states ∷ first_tasks tasks codes
first_tasks _ _ = []

-- the global variables at their initial values, and the tasks
abbrev pub opening : Plant → ProcessImage
opening p =
    image_of (map (λ g. g.value_type) p.plan.globals) (map (λ g. g.initial) p.plan.globals)
    (first_tasks p.plan.tasks p.codes)

-- which variable stands in which slot of which task
abbrev pub layout : Plant → Layout
layout p = layout_of (opening p)

-- ---- level outputs

abbrev pub is_level : ℕ → ℕ → Option Location → Bool
is_level bus address (Some (Level b a)) = b == bus && a == address
is_level bus address _ = false

-- the number of the first of these that the test holds of
abbrev pub first_number : {X : Type 0} → (X → Bool) → List X → Option ℕ
first_number test [] = None
first_number test (x ∷ xs) = if test x then Some 0 else option_map (λ number. number + 1) (first_number test xs)

-- the global variable that is located at the level of this address
abbrev pub output_at : Plant → ℕ → ℕ → Option ℕ
output_at p bus address = first_number (λ g. is_level bus address g.location) p.plan.globals

-- a program of the task stores to the global variable
abbrev pub stores_global : PlannedTask → ℕ → Bool
stores_global task global = list_any (λ e. e.global == global && e.stored) (externals_of task)

-- the kind of the task that stores to it, the first if there are several, and without one that of a cyclic task
abbrev pub storing_kind : Plant → ℕ → kinds.TaskKind
storing_kind p global = kind_by (find (λ task. stores_global task global) p.plan.tasks)
