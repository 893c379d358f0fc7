-- The buses of a scenario (profile).
use Rattle.std.specs.Prelude.{◌≡◌, ℕ, List}
use Rattle.std.specs.List.{filter_map}
use Rattle.wordlines.specs.declared.statements.Statement.{Statement}
use Rattle.simbus.specs.Setups.{gear_on, memory_on, instance_on, reply_on, arrival_on}
use Rattle.simbus.specs.Histories.{Setup}
use Rattle.simbus.specs.Simulated.{Simulated, new_bus}

-- what a scenario says that is on a bus
abbrev pub equipment_of : List Statement → ℕ → Setup
equipment_of scenario bus =
    record {
      gears = filter_map (gear_on bus scenario) scenario;
      memory = filter_map (memory_on bus) scenario;
      instances = filter_map (instance_on bus) scenario;
    }

-- the bus of a scenario with this number, on which nothing happened
abbrev pub bus_of : List Statement → ℕ → Simulated
bus_of scenario bus =
    new_bus bus (equipment_of scenario bus) (filter_map (reply_on bus) scenario) (filter_map (arrival_on bus) scenario)

-- the bus is equipped as a scenario says it of the bus with its number, and has that script, whatever happened on it
pub record IsOnStage (scenario : List Statement) (bus : Simulated) : Type 0 where
  pub setup : bus.setup ≡ equipment_of scenario bus.log.number
  pub script : bus.script ≡ filter_map (reply_on bus.log.number) scenario
