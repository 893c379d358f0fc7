-- Controllers on buses of a program's own (profile): with what one begins, and why one does not start.
use Rattle.std.specs.Prelude.{◌≡◌, ◌≢◌, ℕ, List, length, None}
use Rattle.buslink.specs.BusLog.{BusLog, new_log}
use Rattle.ilcompile.specs.Loaded.{Loaded}
use Rattle.plant.specs.Shown.{IsLimit, IsOpenFault, IsRoomy, opened}
use Rattle.gushewa.specs.declared.controller.Controller.{Controller}
use Rattle.gushewa.specs.declared.not_opened.NotOpened.{NotOpened}
use Rattle.gushewa.specs.declared.not_opened.NotOpened.TheVariants.{Buses, Plant}

-- a bus of this number on which nothing was sent and heard, and of which it is not known what comes
abbrev pub fresh_bus : ℕ → BusLog
fresh_bus number = new_log number None

-- the plant of this setup and limit with one scan worker, to which nothing has happened, on these buses, one for each
-- bus of the plan
pub record IsOpened {B : Type 0} (setup : Loaded) (limit : ℕ) (buses : List B) (c : Controller B) : Type 0 where
  pub count : length buses ≡ setup.plan.buses
  pub limited : IsLimit limit
  pub roomy : IsRoomy setup.plan.buses limit
  pub plant : c.plant ≡ opened setup 1 limit
  pub on : c.buses.items ≡ buses

-- why a plant of so many buses does not start on so many others, with this limit
abbrev pub IsNotOpened : ℕ → ℕ → ℕ → NotOpened → Type 0
IsNotOpened wanted given limit Buses = given ≢ wanted
IsNotOpened wanted given limit (Plant fault) = (given ≡ wanted) × IsOpenFault wanted 1 limit fault
