-- What a play leaves, by the words of its scenario (profile).
use Rattle.std.specs.Prelude.{◌≡◌, ℕ, ◌<◌, false, List, ◌++◌, map}
use Rattle.std.specs.List.{filter_map}
use Rattle.buslink.specs.BusLog.{frames_in}
use Rattle.wordlines.specs.declared.statements.Statement.{Statement}
use Rattle.wordlines.specs.Happenings.{ticks as ticks_of}
use Rattle.simbus.specs.Setups.{arrival_on}
use Rattle.ilcompile.specs.Loaded.{Loaded}
use Rattle.plantevents.specs.Histories.{given_in, heard_in, is_down}
use Rattle.plant.specs.Shown.{plant_of}
use Rattle.plantplay.specs.declared.ending.Ending.{Ending}
use Rattle.plantplay.specs.declared.ending.Ending.TheVariants.{Whole}
use Rattle.plantplay.specs.Installations.{buses_of, sim_log}
use Rattle.plantplay.specs.Stage.{Stage, AreStillLinked}

-- the frames of the events that a scenario has for a bus
abbrev pub events_on : ℕ → List Statement → List ℕ
events_on b scenario = frames_in (filter_map (arrival_on b) scenario)

-- The plant is that of the setup with one scan worker. The clock gave the scenario's ticks, in their order, and all of them where all was played; and then each bus that is
-- up heard just the events that the scenario has for it. Each bus sent the attempts of its reports and nothing else, the
-- history has what was heard there, and the bus went down as often as its interface failed.
pub record IsByScenario (setup : Loaded) (scenario : List Statement) (ending : Ending) (left : Stage) : Type 0 where
  pub plant : left.plant.plant ≡ plant_of setup 1
  pub ticks : (rest : List ℕ) × (ticks_of scenario ≡ given_in left.plant.history ++ rest)
  pub all_ticks : ending ≡ Whole → given_in left.plant.history ≡ ticks_of scenario
  pub all_heard : ending ≡ Whole → (b : ℕ) → b < setup.plan.buses → is_down b left.plant.history ≡ false
      → heard_in b left.plant.history ≡ events_on b scenario
  pub linked : AreStillLinked (map sim_log (buses_of scenario setup.plan.buses)) left.plant.history left.logs
