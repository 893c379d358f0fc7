-- What is open at a worker and at a bus, and so what may end there (profile).
use Rattle.std.specs.Prelude.{◌≡◌, ℕ, ◌<◌, Some}
use Rattle.gearcmd.specs.FrameLists.{FrameList}
use Rattle.buslink.specs.Attempts.{ReportParts}
use Rattle.plantevents.specs.Scans.{Scan}
use Rattle.plantevents.specs.Histories as histories
use Rattle.plantevents.specs.Histories.{OpenScan, OpenHand}
use Rattle.plantevents.specs.Plants.{tries_of}
use Rattle.plant.specs.Shown.{Shown}

-- the worker has this scan open: it has the number of the scan that the worker took, and the same snapshot
pub record IsOpenScan (p : Shown) (w : ℕ) (scan : Scan) : Type 0 where
  pub known : w < p.plant.workers
  pub running : OpenScan
  pub is_open : histories.scan w p.history ≡ Some running
  pub number : scan.number ≡ running.place
  pub snapshot : scan.snapshot ≡ running.snapshot

-- A scan under the number of the one that the worker has open began from its snapshot. Whoever makes the scan of what
-- the worker took knows that, and nobody looks at the snapshots.
abbrev pub IsOwnScan : Shown → ℕ → Scan → Type 0
IsOwnScan p w scan =
    (running : OpenScan) → histories.scan w p.history ≡ Some running → scan.number ≡ running.place
    → scan.snapshot ≡ running.snapshot

-- the bus has this transaction open, which was handed out under this number
pub record IsOpenTransaction (p : Shown) (b n : ℕ) (transaction : FrameList) : Type 0 where
  pub known : b < p.plant.plan.buses
  pub handed : OpenHand
  pub is_open : histories.hand b p.history ≡ Some handed
  pub number : n ≡ handed.place
  pub same : transaction ≡ handed.transaction

-- the report is one of the transaction that the bus has open under this number, by the attempts of the bus
pub record IsReportOf (p : Shown) (b n : ℕ) (report : ReportParts) : Type 0 where
  pub is_open : IsOpenTransaction p b n report.transaction
  pub tries : report.tries ≡ tries_of p.plant b
