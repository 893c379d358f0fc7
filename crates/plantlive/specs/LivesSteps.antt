-- What the steps of living do: a run after another one.
use Rattle.std.specs.Prelude.{◌≡◌, List, length, true}
use Rattle.buslink.specs.BusLog.{BusLog}
use Rattle.buslink.specs.ClockLog.{ClockLog}
use Rattle.plantevents.specs.Plants.{Plant}
use Rattle.plant.specs.Shown.{is_full}
use Rattle.workers.specs.declared.closed.ClosedParts.{ClosedParts}
use Rattle.workers.specs.declared.ended.Ended.TheVariants.{Asked, Limit}
use Rattle.workers.specs.Closings.{IsClosed}
use Rattle.workers.specs.Runs.{HasEndedQuietly}

-- what the runs of this plant left since the first logs, which are those of before the first one
pub record IsSince {B C : Type 0} (p : Plant) (logs : List BusLog) (first : ClockLog) (bus_log : B → BusLog)
    (clock_log : C → ClockLog) (left : ClosedParts B C) : Type 0 where
  pub closed : IsClosed p logs first bus_log clock_log left
  pub ended : left.ended ≡ Asked → HasEndedQuietly logs first bus_log clock_log left
  pub full : left.ended ≡ Limit → is_full left.plant ≡ true
  pub count : length left.buses.items ≡ p.plan.buses
