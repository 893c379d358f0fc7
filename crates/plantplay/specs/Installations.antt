-- An installation that starts: a plant to which nothing has happened, on the simulated buses of a scenario (profile).
use Rattle.std.specs.Prelude.{◌≡◌, ℕ, List, map, ⊤}
use Rattle.std.specs.List.{range_with_len}
use Rattle.buslink.specs.BusLog.{BusLog}
use Rattle.wordlines.specs.declared.statements.Statement.{Statement}
use Rattle.simbus.specs.Simulated.{Simulated}
pub use Rattle.simbus.specs.Staged.{bus_of}
use Rattle.ilcompile.specs.Loaded.{Loaded}
use Rattle.plant.specs.Shown.{IsLimit, IsOpenFault, IsRoomy, opened}
use Rattle.plantplay.specs.Stage.{Stage}
use Rattle.plantplay.specs.declared.installation.Installation.{Installation}
use Rattle.plant.specs.declared.start_fault.StartFault.{StartFault}
use Rattle.plant.specs.declared.start_fault.StartFault.TheVariants.{Memory, Plant}

-- what became of a simulated bus
abbrev pub sim_log : Simulated → BusLog
sim_log bus = bus.log

-- its plant, with what became of its buses
abbrev pub stage_of : Installation Simulated → Stage
stage_of installation = record { plant = installation.plant; logs = map sim_log installation.lines.items }

-- the first buses of a scenario, so many, in the order of their numbers
abbrev pub buses_of : List Statement → ℕ → List Simulated
buses_of scenario buses = map (bus_of scenario) (range_with_len 0 buses)

-- the plant of this setup and limit with one scan worker, to which nothing has happened, on the scenario's buses, one
-- for each bus of the plan
pub record IsInstallation (setup : Loaded) (scenario : List Statement) (limit : ℕ)
    (installation : Installation Simulated) : Type 0 where
  pub limited : IsLimit limit
  pub roomy : IsRoomy setup.plan.buses limit
  pub plant : installation.plant ≡ opened setup 1 limit
  pub buses : installation.lines.items ≡ buses_of scenario setup.plan.buses

-- why a plant of so many buses with so many scan workers and this limit does not start on simulated buses: the
-- allocator has no memory for the buses, which may be at any time, or the plant is not opened
abbrev pub IsStartFault : ℕ → ℕ → ℕ → StartFault → Type 0
IsStartFault buses workers limit Memory = ⊤
IsStartFault buses workers limit (Plant fault) = IsOpenFault buses workers limit fault
