-- All workers that were started.
use Rattle.std.specs.Prelude.{◌≡◌, ℕ, ◌≤◌, List, [], vec_len, vec_capacity}
use Rattle.limits.specs.Limits.{most_buses}
use Rattle.buslink.specs.BusLog.{BusLog}
use Rattle.buslink.specs.ClockLog.{ClockLog}
use Rattle.plantturns.specs.Each.{Each}
use Rattle.workers.specs.declared.bus_threads.StartedBus.{StartedBus}
use Rattle.workers.specs.declared.scan_threads.StartedScans.{StartedScans}
use Rattle.workers.specs.declared.working.AllWorkers.{AllWorkers}
use Rattle.workers.specs.declared.working.ThreadLists.{ThreadLists}
use Rattle.workers.specs.Started.{IsStartedBus, IsStartedScans}
use Rattle.workers.specs.LinkedShares.{AreLinkedShares}

-- that of each bus, by its number
abbrev pub AreStartedBuses : {B J T : Type 0} → List BusLog → (B → BusLog) → List (StartedBus B J T) → Type 0
AreStartedBuses logs log started = Each (IsStartedBus logs log) 0 started

-- each scan worker, by its number
abbrev pub AreStartedScans : {J T : Type 0} → List (StartedScans J T) → Type 0
AreStartedScans started = Each IsStartedScans 0 started

-- these lists are empty, and have room for the threads of that many buses and scan workers
pub record HasThreadRoom {B J T : Type 0} (buses workers : ℕ) (thread_lists : ThreadLists B J T) : Type 0 where
  pub no_bus : thread_lists.buses.items ≡ []
  pub for_buses : buses ≤ vec_capacity thread_lists.buses
  pub no_worker : thread_lists.workers.items ≡ []
  pub for_workers : workers ≤ vec_capacity thread_lists.workers

-- nothing is under way, and there is room for all threads
pub record AreReadyToStart {B C J T K G : Type 0} (logs : List BusLog) (first : ClockLog) (bus_log : B → BusLog)
    (clock_log : C → ClockLog) (all : AllWorkers B C J T K G) : Type 0 where
  pub linked : AreLinkedShares logs first bus_log clock_log all.linked
  pub few : vec_len all.linked.buses ≤ most_buses
  pub thread_lists : HasThreadRoom (vec_len all.linked.buses) (vec_len all.linked.workers) all.thread_lists
