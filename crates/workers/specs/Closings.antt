-- What a run leaves: nothing is open, and the links and the history tell the same.
use Rattle.std.specs.Prelude.{◌≡◌, List, ◌++◌, length}
use Rattle.buslink.specs.BusLog.{BusLog}
use Rattle.buslink.specs.ClockLog.{ClockLog}
use Rattle.plantevents.specs.Histories.{given_in}
use Rattle.plantevents.specs.Legal.{AreLegal}
use Rattle.plantevents.specs.Plants.{Plant}
use Rattle.plant.specs.Shown.{IsWorkerCount}
use Rattle.plantturns.specs.Each.{Each}
use Rattle.plantturns.specs.Links.{IsLinked, IsNoLess, log_of}
use Rattle.plantturns.specs.Open.{HasNothingOpen}
use Rattle.workers.specs.declared.closed.ClosedParts.{ClosedParts}

-- A legal history of this plant in which nothing is open, and since the first logs each bus and the clock gave and took
-- what it says. No call that heard or asked is forgotten. They are the same buses and the same clock.
pub record IsClosed {B C : Type 0} (p : Plant) (logs : List BusLog) (first : ClockLog) (bus_log : B → BusLog)
    (clock_log : C → ClockLog) (closed : ClosedParts B C) : Type 0 where
  pub plant : closed.plant.plant ≡ p
  pub legal : AreLegal p closed.plant.history
  pub idle : HasNothingOpen closed.plant
  pub buses : Each (λ b line. IsLinked (log_of logs b) b closed.plant.history (bus_log line)) 0 closed.buses.items
  pub hears : Each (λ b line. IsNoLess (log_of logs b).hears (bus_log line).hears) 0 closed.buses.items
  pub clock : (clock_log closed.clock).given ≡ first.given ++ given_in closed.plant.history
  pub moments : (clock_log closed.clock).moments ≡ first.moments
  pub asks : IsNoLess first.asks (clock_log closed.clock).asks

-- So it is of what a run left, since some logs: another one may go on from it.
pub record IsLeft {B C : Type 0} (bus_log : B → BusLog) (clock_log : C → ClockLog) (left : ClosedParts B C) : Type 0
  where
    pub p : Plant
    pub logs : List BusLog
    pub first : ClockLog
    pub closed : IsClosed p logs first bus_log clock_log left
    pub workers : IsWorkerCount p.workers
    pub count : length left.buses.items ≡ p.plan.buses
