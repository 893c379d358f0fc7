-- When nothing is open in a plant.
use Rattle.std.specs.Prelude.{◌≡◌, ℕ, ◌<◌, None}
use Rattle.plantevents.specs.Histories.{scan, hand}
use Rattle.plant.specs.Shown.{Shown}

-- no scan worker has a scan open, and no bus a transaction
pub record HasNothingOpen (p : Shown) : Type 0 where
  pub no_scan : (w : ℕ) → w < p.plant.workers → scan w p.history ≡ None
  pub no_hand : (b : ℕ) → b < p.plant.plan.buses → hand b p.history ≡ None
