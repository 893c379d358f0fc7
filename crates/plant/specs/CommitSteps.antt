-- What private functions commit.
use Rattle.std.specs.Prelude.{◌≡◌, ℕ, ◌<◌, ◌≤◌, All, length, Some}
use Rattle.limits.specs.Limits.{most_requests}
use Rattle.ilmachine.specs.Images.{verified_of}
use Rattle.plantevents.specs.Scans.{Scan}
use Rattle.plantevents.specs.Plants.{layout}
use Rattle.plantevents.specs.Legal.{IsCommit}
use Rattle.plant.specs.Shown.{Shown}
use Rattle.plant.specs.Matches.{IsOpenScan}

-- the worker has this scan of task t open
pub record IsOpenScanOf (p : Shown) (w : ℕ) (result : Scan) (t : ℕ) : Type 0 where
  pub is : IsOpenScan p w result
  pub task : is.running.task ≡ t

-- the worker may commit this scan of task t: it was made of the task's code, and its requests are for buses of the plan
pub record IsScanOfTask (p : Shown) (w : ℕ) (result : Scan) (t : ℕ) : Type 0 where
  pub allowed : IsCommit p.plant p.history w result.number result
  pub task : allowed.running.task ≡ t
  pub known : t < length p.plant.plan.tasks
  pub code : verified_of (layout p.plant) t ≡ Some result.snapshot.verified
  pub requests : All (λ r. r.bus < p.plant.plan.buses) result.after.requests
  pub few : length result.after.requests ≤ most_requests
