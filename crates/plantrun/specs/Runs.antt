-- What a run on simulated buses leaves, and which buses those are (profile).
use Rattle.std.specs.Prelude.{◌≡◌, ℕ, zero, suc, List, [], ◌∷◌, ◌++◌}
use Rattle.buslink.specs.ClockLog.{ClockLog}
use Rattle.buslink.specs.Each.{Each}
use Rattle.wordlines.specs.declared.statements.Statement.{Statement}
use Rattle.wordlines.specs.Happenings.{ticks}
use Rattle.simbus.specs.ScriptedTicks.{IsByScript, ScriptedTicks, new_clock}
use Rattle.simbus.specs.Simulated.{Simulated, all_arrived}
use Rattle.ilcompile.specs.Loaded.{Loaded}
use Rattle.plantplay.specs.Installations.{bus_of, sim_log}
use Rattle.workers.specs.declared.closed.ClosedParts.{ClosedParts}
use Rattle.workers.specs.declared.ended.Ended.TheVariants.{Asked}
use Rattle.workers.specs.Runs.{HasRun}
use Rattle.plantrun.specs.Scenes.{HasWholeScenario, IsBusOf, FollowsScenario}

-- what became of a scenario's clock
abbrev pub tick_log : ScriptedTicks → ClockLog
tick_log clock = clock.log

-- the first buses of a scenario, so many, in the order of their numbers; all that comes to be heard has come
abbrev pub buses_of : List Statement → ℕ → List Simulated
buses_of scenario zero = []
buses_of scenario (suc buses) = buses_of scenario buses ++ all_arrived (bus_of scenario buses) ∷ []

-- the clock of a scenario, which was never asked
abbrev pub clock_of : List Statement → ScriptedTicks
clock_of scenario = new_clock (ticks scenario)

-- The plant of this setup was run by so many scan workers on the buses and the clock of this scenario, under this limit.
pub record IsRun (setup : Loaded) (scenario : List Statement) (workers limit : ℕ)
    (left : ClosedParts Simulated ScriptedTicks) : Type 0 where
  -- Its history is legal, nothing is open, and buses and clock gave and took what it says.
  pub run : HasRun setup workers limit (buses_of scenario setup.plan.buses) (clock_of scenario) sim_log tick_log left
  -- The history follows the scenario.
  pub scene : FollowsScenario scenario setup.plan.buses left.plant.history
  -- Where it ended since the clock gave no moment more, the history has the whole scenario.
  pub whole : left.ended ≡ Asked → HasWholeScenario scenario setup.plan.buses left.plant.history
  -- The buses are still those of the scenario, by their numbers, and the clock is still its clock.
  pub buses : Each (IsBusOf scenario) 0 left.buses.items
  pub clock : IsByScript left.clock
