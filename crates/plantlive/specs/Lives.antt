-- What all runs of a plant leave, one after another over the same buses and the same clock (profile).
use Rattle.std.specs.Prelude.{◌≡◌, ◌⊎◌, ℕ, ◌+◌, ◌<◌, ◌≤◌, List, length, map, true}
use Rattle.limits.specs.Limits.{most_total}
use Rattle.ilcompile.specs.Loaded.{Loaded}
use Rattle.buslink.specs.BusLog.{BusLog}
use Rattle.buslink.specs.ClockLog.{ClockLog}
use Rattle.plant.specs.Shown.{IsLimit, IsRoomy, is_full, plant_of, used}
use Rattle.workers.specs.declared.ended.Ended.{Ended}
use Rattle.workers.specs.declared.ended.Ended.TheVariants.{Asked, Limit, NoMemory, NoThread}
use Rattle.workers.specs.Closings.{IsClosed}
use Rattle.workers.specs.Runs.{HasEndedQuietly}
use Rattle.workers.specs.Starts.{AreCounts}
use Rattle.plantlive.specs.declared.living.Lived.{Lived}

-- Why no run follows the last one, which ended for this reason after so many places were used. Where its history is
-- full, another run by so many events more follows it; else so many are more than a history comes to at most, or
-- they would not be, and the allocator is out of memory. Where it ended otherwise, that is why.
abbrev pub IsEnd : ℕ → ℕ → Ended → Ended → Type 0
IsEnd past more Limit ended =
    ((ended ≡ Limit) × (most_total < past + more)) ⊎ ((ended ≡ NoMemory) × (past + more ≤ most_total))
IsEnd past more Asked ended = ended ≡ Asked
IsEnd past more NoMemory ended = ended ≡ NoMemory
IsEnd past more NoThread ended = ended ≡ NoThread

-- The plant of this setup was run by so many workers on these buses and this clock, in runs of so many events each.
pub record HasLived {B C : Type 0} (setup : Loaded) (workers limit : ℕ) (buses : List B) (clock : C)
    (bus_log : B → BusLog) (clock_log : C → ClockLog) (lived : Lived B C) : Type 0 where
  -- Its history is legal, nothing is open, and since before the first run buses and clock gave and took what it says.
  pub closed : IsClosed (plant_of setup workers) (map bus_log buses) (clock_log clock) bus_log clock_log lived.left
  -- Where it ended since the clock gave no moment more, the clock came to its end and nothing is left to do.
  pub ended : lived.ended ≡ Asked
      → HasEndedQuietly (map bus_log buses) (clock_log clock) bus_log clock_log lived.left
  -- It ended since the last run did, and no other one can follow.
  pub why : IsEnd (used lived.left.plant) limit lived.left.ended lived.ended
  -- Where the last run ended since the history is full, it is.
  pub full : lived.left.ended ≡ Limit → is_full lived.left.plant ≡ true
  -- There are as many buses as before.
  pub count : length lived.left.buses.items ≡ length buses
  -- It has a number of scan workers that a plant may have, and a bus for each of the plan.
  pub counts : AreCounts setup workers (length buses)
  -- The events of a run are as many as a history may have at first.
  pub limited : IsLimit limit
  -- They have room for that many buses.
  pub roomy : IsRoomy setup.plan.buses limit
