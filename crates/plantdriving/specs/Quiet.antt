-- When nothing is left to do at a plant on its buses (IEC 61131-3, 2.7.2, and profile).
use Rattle.std.specs.Prelude.{◌≡◌, ◌⊎◌, ℕ, ◌<◌, true, List, [], length}
use Rattle.buslink.specs.BusLog.{BusLog, HasHeardAll}
use Rattle.plantevents.specs.Histories.{is_down}
use Rattle.plantevents.specs.Waiting.{handouts}
use Rattle.plant.specs.Refusals.{none_free}
use Rattle.plant.specs.Shown.{Shown}
use Rattle.plantdriving.specs.Links.{IsAsked, log_of}

-- no task is ready without an open scan
abbrev pub HasNoScan : Shown → Type 0
HasNoScan p = none_free p.plant p.history (length p.plant.plan.tasks) ≡ true

-- the bus is down, or nothing waits for it and no level is owed there
abbrev pub HasNoHandout : Shown → ℕ → Type 0
HasNoHandout p b = (is_down b p.history ≡ true) ⊎ (handouts p.plant b p.history ≡ [])

-- The bus was asked to hear since the first log, and nothing had come when it was asked last. Where it is known what has
-- come, all of that was heard.
pub record WasSilent (first log : BusLog) : Type 0 where
  pub none : log.heard_none ≡ true
  pub asked : IsAsked first log
  pub all : HasHeardAll log

-- the bus is down, or it was silent
abbrev pub HasNoFrame : Shown → ℕ → BusLog → BusLog → Type 0
HasNoFrame p b first log = (is_down b p.history ≡ true) ⊎ WasSilent first log

-- nothing is left to do, on buses whose logs were these first
pub record IsQuiet (p : Shown) (firsts logs : List BusLog) : Type 0 where
  pub scanned : HasNoScan p
  pub sent : (b : ℕ) → b < p.plant.plan.buses → HasNoHandout p b
  pub heard : (b : ℕ) → b < p.plant.plan.buses → HasNoFrame p b (log_of firsts b) (log_of logs b)
