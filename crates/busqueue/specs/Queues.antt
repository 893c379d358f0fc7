-- The requests that wait for one bus, by class (IEC 62386-101, clause 9, for priorities; profile).
use Rattle.std.specs.Prelude.{◌≡◌, ◌≢◌, ◌<◌, ◌==◌, ◌+◌, ℕ, nat_lt, Bool, if◌then◌else◌, Option, Some, None}
use Rattle.std.specs.Prelude.{List, [], ◌∷◌, ◌++◌, length, drop, slice_get}
use Rattle.limits.specs.Limits.{most_waiting}
use Rattle.gearcmd.specs.declared.requests.Request.{Request}
use Rattle.busqueue.specs.declared.class.Class.{Class}
use Rattle.busqueue.specs.declared.class.Class.TheVariants.{UserAction, Configuration, AutomaticAction, Query}

-- the priority of the first frame, of which the least goes first
abbrev pub class_number : Class → ℕ
class_number UserAction = 2
class_number Configuration = 3
class_number AutomaticAction = 4
class_number Query = 5

abbrev pub is_class : Class → Class → Bool
is_class c d = class_number c == class_number d

-- the requests of one class that wait, the oldest first, and how many were dropped
pub record Queue : Type 0 where
  pub waiting : List Request
  pub dropped : ℕ

abbrev pub queue : List Request → ℕ → Queue
queue waiting dropped = record { waiting = waiting; dropped = dropped }

-- those of one bus, a queue for each class
pub record BusQueues : Type 0 where
  pub user_action : Queue
  pub configuration : Queue
  pub automatic_action : Queue
  pub query : Queue

abbrev pub queue_of : BusQueues → Class → Queue
queue_of queues UserAction = queues.user_action
queue_of queues Configuration = queues.configuration
queue_of queues AutomaticAction = queues.automatic_action
queue_of queues Query = queues.query

-- A request is accepted exactly where fewer than 64 of its class wait; else it is dropped and counted.
abbrev pub after_offer : Queue → Request → Queue
after_offer q request =
    if nat_lt (length q.waiting) most_waiting then queue (q.waiting ++ request ∷ []) q.dropped
    else queue q.waiting (q.dropped + 1)

-- the queue without its oldest request
abbrev pub after_next : Queue → Queue
after_next q = queue (drop 1 q.waiting) q.dropped

-- the least class of which a request waits, or none where nothing waits
abbrev pub IsLeastClass : BusQueues → Option Class → Type 0
IsLeastClass queues (Some class) =
    ((queue_of queues class).waiting ≢ [])
    × ((c : Class) → class_number c < class_number class → (queue_of queues c).waiting ≡ [])
IsLeastClass queues None = (c : Class) → (queue_of queues c).waiting ≡ []

-- the oldest request of the least class, with that class
abbrev pub IsNext : BusQueues → Option (Class × Request) → Type 0
IsNext queues (Some next) =
    IsLeastClass queues (Some next.0) × (slice_get (queue_of queues next.0).waiting 0 ≡ Some next.1)
IsNext queues None = IsLeastClass queues None

-- the queue of class c once this was the next
abbrev pub left_of : Option (Class × Request) → Class → Queue → Queue
left_of None c q = q
left_of (Some next) c q = if is_class c next.0 then after_next q else q
