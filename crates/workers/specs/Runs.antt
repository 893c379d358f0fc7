-- What a run does, and one that goes on from what another one left (profile).
use Rattle.std.specs.Prelude.{◌≡◌, ℕ, ◌+◌, List, ◌++◌, length, map, true}
use Rattle.ilcompile.specs.Loaded.{Loaded}
use Rattle.buslink.specs.BusLog.{BusLog}
use Rattle.buslink.specs.ClockLog.{ClockLog}
use Rattle.plantevents.specs.declared.event.Event.{Event}
use Rattle.plantevents.specs.Histories.{given_in}
use Rattle.plantevents.specs.Plants.{Plant}
use Rattle.plant.specs.Shown.{IsLimit, IsRoomy, is_full, plant_of, used}
use Rattle.plantturns.specs.Each.{Each}
use Rattle.plantturns.specs.Links.{IsLinked, log_of}
use Rattle.plantturns.specs.Quiet.{IsQuiet}
use Rattle.plantturns.specs.Logs.{HasEnded}
use Rattle.workers.specs.declared.closed.ClosedParts.{ClosedParts}
use Rattle.workers.specs.declared.closed.NotGoneOn.{NotGoneOn}
use Rattle.workers.specs.declared.closed.NotStarted.{NotStarted}
use Rattle.workers.specs.declared.ended.Ended.TheVariants.{Asked, Limit}
use Rattle.workers.specs.Closings.{IsClosed}
use Rattle.workers.specs.Starts.{AreCounts, IsAgainFault, IsMore, IsMoreFault, IsNextLimit, IsStartFault}

-- Since these logs the clock came to its end, and nothing is left to do.
pub record HasEndedQuietly {B C : Type 0} (logs : List BusLog) (first : ClockLog) (bus_log : B → BusLog)
    (clock_log : C → ClockLog) (left : ClosedParts B C) : Type 0 where
  pub clock : HasEnded first (clock_log left.clock)
  pub quiet : IsQuiet left.plant logs (map bus_log left.buses.items)

-- ---- a run

-- The plant of this setup was run by so many workers on these buses and this clock, under this limit.
pub record HasRun {B C : Type 0} (setup : Loaded) (workers limit : ℕ) (buses : List B) (clock : C)
    (bus_log : B → BusLog) (clock_log : C → ClockLog) (left : ClosedParts B C) : Type 0 where
  -- Its history is legal, nothing is open, and since before the run buses and clock gave and took what it says.
  pub closed : IsClosed (plant_of setup workers) (map bus_log buses) (clock_log clock) bus_log clock_log left
  -- Where it ended since the clock gave no moment more, the clock came to its end in the run and nothing is left to do.
  pub ended : left.ended ≡ Asked → HasEndedQuietly (map bus_log buses) (clock_log clock) bus_log clock_log left
  -- Where it ended since the history is full, it is.
  pub full : left.ended ≡ Limit → is_full left.plant ≡ true
  -- The history has the limit that was given.
  pub kept : left.plant.limit ≡ limit
  -- There are as many buses as before.
  pub count : length left.buses.items ≡ length buses
  -- It has a number of scan workers that a plant may have, and a bus for each of the plan.
  pub counts : AreCounts setup workers (length buses)
  -- The limit is one that a history may have.
  pub limited : IsLimit limit
  -- It has room for that many buses.
  pub roomy : IsRoomy setup.plan.buses limit

-- It did not start, for this reason, and the buses and the clock are as they were.
pub record IsNotStarted {B C : Type 0} (setup : Loaded) (workers limit : ℕ) (buses : List B) (clock : C)
    (refused : NotStarted B C) : Type 0 where
  pub fault : IsStartFault setup workers (length buses) limit refused.fault
  pub same_buses : refused.buses.items ≡ buses
  pub same_clock : refused.clock ≡ clock

-- ---- a run that goes on

-- What was left went on under this limit.
pub record GoesOn {B C : Type 0} (limit : ℕ) (bus_log : B → BusLog) (clock_log : C → ClockLog) (old new : ClosedParts B C)
    : Type 0 where
  -- What was so of the plant, buses and clock since any earlier logs is so still: legal, nothing open, and all agree.
  pub since : (p : Plant) (logs : List BusLog) (first : ClockLog) → IsClosed p logs first bus_log clock_log old
      → IsClosed p logs first bus_log clock_log new
  -- Where it ended since the clock gave no moment more, the clock came to its end in this run and nothing is left to do.
  pub ended : new.ended ≡ Asked
      → HasEndedQuietly (map bus_log old.buses.items) (clock_log old.clock) bus_log clock_log new
  -- Where it ended since the history is full, it is.
  pub full : new.ended ≡ Limit → is_full new.plant ≡ true
  -- The old history is a front of the new one.
  pub later : List Event
  pub history : new.plant.history ≡ later ++ old.plant.history
  -- Each bus gave and took what follows the old history, and that alone.
  pub buses : Each (λ b line. IsLinked (log_of (map bus_log old.buses.items) b) b later (bus_log line)) 0 new.buses.items
  -- So did the clock, which is the same.
  pub clock : (clock_log new.clock).given ≡ (clock_log old.clock).given ++ given_in later
  pub moments : (clock_log new.clock).moments ≡ (clock_log old.clock).moments
  -- The history has this limit.
  pub kept : new.plant.limit ≡ limit
  -- There are as many buses as before.
  pub count : length new.buses.items ≡ length old.buses.items

-- What was left went on under the limit that was given.
pub record HasGoneOn {B C : Type 0} (limit : ℕ) (bus_log : B → BusLog) (clock_log : C → ClockLog)
    (old new : ClosedParts B C) : Type 0 where
  pub went : GoesOn limit bus_log clock_log old new
  -- It is no less than the one before, and one that a history may have.
  pub limited : IsNextLimit old.plant.limit limit

-- It did not go on, for this reason, and what was left is as it was.
pub record IsNotGoneOn {B C : Type 0} (limit : ℕ) (old : ClosedParts B C) (refused : NotGoneOn B C) : Type 0 where
  pub fault : IsAgainFault old.plant.limit limit refused.fault
  pub closed : refused.closed ≡ old

-- What was left went on by so many events and places more than its history used.
pub record HasGoneOnBy {B C : Type 0} (more : ℕ) (bus_log : B → BusLog) (clock_log : C → ClockLog)
    (old new : ClosedParts B C) : Type 0 where
  pub went : GoesOn (used old.plant + more) bus_log clock_log old new
  -- A run may go on with so many.
  pub limited : IsMore (used old.plant) more

-- It did not go on by so many, for this reason, and what was left is as it was.
pub record IsNotGoneOnBy {B C : Type 0} (more : ℕ) (old : ClosedParts B C) (refused : NotGoneOn B C) : Type 0 where
  pub fault : IsMoreFault (used old.plant) more refused.fault
  pub closed : refused.closed ≡ old
