-- A scan that a worker has open is its own: it began from the snapshot of what the worker took.
use Rattle.std.proofs.Common.{◌≡◌, ◌∙◌, ℕ, Some, sym, ap}
use Rattle.plantevents.specs.Scans.{Scan}
use Rattle.plantevents.specs.Histories.{OpenScan}
use Rattle.plant.specs.Shown.{Shown}
use Rattle.plant.specs.Matches.{IsOpenScan, IsOwnScan}

pub open_is_own : (p : Shown) (w : ℕ) (result : Scan) → IsOpenScan p w result → IsOwnScan p w result
open_is_own p w result is running here number =
    let both : Some is.running ≡ Some running = sym is.is_open ∙ here in
    let same : is.running ≡ running = cc in
    is.snapshot ∙ ap (λ (r : OpenScan). r.snapshot) same
