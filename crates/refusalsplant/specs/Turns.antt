-- Scans of the first task.
use Rattle.std.specs.Prelude.{List, ◌∷◌, length}
use Rattle.ilmachine.specs.Snapshots.{ScanStart}
use Rattle.ilmachine.specs.Scans.{Scan}
use Rattle.plantevents.specs.declared.event.Event.{Event}
use Rattle.plantevents.specs.declared.event.Event.TheVariants.{Take, Commit}

-- the history once the first worker took the first task with this snapshot, and committed this scan of it
abbrev pub scanned : ScanStart → Scan → List Event → List Event
scanned snapshot result h = Commit 0 (length h) result ∷ Take 0 0 snapshot ∷ h
