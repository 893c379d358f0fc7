-- What a run begins with.
use Rattle.std.specs.Prelude.{◌≡◌, ◌≤◌, List, [], ◌++◌, length, vec_capacity}
use Rattle.buslink.specs.BusLog.{BusLog}
use Rattle.buslink.specs.ClockLog.{ClockLog}
use Rattle.plantevents.specs.Histories.{given_in}
use Rattle.plantevents.specs.Plants.{Plant}
use Rattle.plant.specs.Shown.{Shown}
use Rattle.plantturns.specs.Each.{Each}
use Rattle.plantturns.specs.Links.{IsNoLess, log_of}
use Rattle.plantturns.specs.Links.{IsLinked}
use Rattle.workers.specs.declared.beginning.RunParts.{RunParts}
use Rattle.workers.specs.WorkerThreads.{HasThreadRoom}
use Rattle.workers.specs.LinkedShares.{AreLinkedShares}

-- since these logs each bus and the clock gave and took what the history at the start says
pub record IsInStep {B C : Type 0} (start : Shown) (logs : List BusLog) (first : ClockLog) (bus_log : B → BusLog)
    (clock_log : C → ClockLog) (lines : List B) (clock : C) : Type 0 where
  pub buses : Each (λ b line. IsLinked (log_of logs b) b start.history (bus_log line)) 0 lines
  pub hears : Each (λ b line. IsNoLess (log_of logs b).hears (bus_log line).hears) 0 lines
  pub given : (clock_log clock).given ≡ first.given ++ given_in start.history
  pub moments : (clock_log clock).moments ≡ first.moments
  pub asks : IsNoLess first.asks (clock_log clock).asks

-- a Share for each scan worker, for each bus and for the clock, with its link; room for the threads, and for the end
pub record AreRunParts {B C J N : Type 0} (p : Plant) (logs : List BusLog) (first : ClockLog) (bus_log : B → BusLog)
    (clock_log : C → ClockLog) (run_parts : RunParts B C J N) : Type 0 where
  pub linked : AreLinkedShares logs first bus_log clock_log run_parts.linked
  pub workers : length run_parts.linked.workers.items ≡ p.workers
  pub buses : length run_parts.linked.buses.items ≡ p.plan.buses
  pub no_line : run_parts.bus_lists.lines.items ≡ []
  pub no_share : run_parts.bus_lists.shares.items ≡ []
  pub lines : p.plan.buses ≤ vec_capacity run_parts.bus_lists.lines
  pub shares : p.plan.buses ≤ vec_capacity run_parts.bus_lists.shares
  pub thread_lists : HasThreadRoom p.plan.buses p.workers run_parts.thread_lists
