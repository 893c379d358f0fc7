-- What private functions offer.
use Rattle.std.specs.Prelude.{ℕ, ◌&&◌, not, nat_lt, List, length, if◌then◌else◌}
use Rattle.gearcmd.specs.declared.requests.Request.{Request}
use Rattle.gearcmd.specs.declared.requests.TaskKind.{TaskKind}
use Rattle.busqueue.specs.declared.class.Class.{Class}
use Rattle.busqueue.specs.Queues.{BusQueues, queue_of}
use Rattle.plantevents.specs.Waiting.{most_waiting, is_for}
use Rattle.plantbuses.specs.KeptSteps.{KeptBus}

abbrev pub waiting_in : KeptBus → Class → List Request
waiting_in bus c = (queue_of bus.queues c).waiting

abbrev pub dropped_in : KeptBus → Class → ℕ
dropped_in bus c = (queue_of bus.queues c).dropped

-- the bus with these requests
abbrev pub with_queues : KeptBus → BusQueues → KeptBus
with_queues bus queues = record bus { queues = queues }

-- whether a request, which is for its own bus, is dropped there
abbrev pub refused_one : ℕ → TaskKind → List Request → Request → ℕ
refused_one c kind queue r =
    if is_for r.bus c kind r && not (nat_lt (length queue) most_waiting) then 1 else 0
