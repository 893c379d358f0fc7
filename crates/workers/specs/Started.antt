-- What a worker that was started gives, or gave where no thread could be made.
use Rattle.std.specs.Prelude.{◌≡◌, ℕ, List}
use Rattle.buslink.specs.BusLog.{BusLog}
use Rattle.workers.specs.declared.bus_threads.StartedBus.{StartedBus}
use Rattle.workers.specs.declared.bus_threads.StartedBus.TheVariants as buses
use Rattle.workers.specs.declared.scan_threads.StartedScans.{StartedScans}
use Rattle.workers.specs.declared.scan_threads.StartedScans.TheVariants as scans
use Rattle.plantturns.specs.Links.{log_of}
use Rattle.plantturns.specs.Logs.{IsServed, IsWorker}

-- the worker of this bus
abbrev pub IsStartedBus : {B J T : Type 0} → List BusLog → (B → BusLog) → ℕ → StartedBus B J T → Type 0
IsStartedBus logs log bus (buses.There child) = child.promise.bus ≡ bus
IsStartedBus logs log bus (buses.Here served) = IsServed (log_of logs bus) bus served.share (log served.line)

-- this scan worker
abbrev pub IsStartedScans : {J T : Type 0} → ℕ → StartedScans J T → Type 0
IsStartedScans worker (scans.There child) = child.promise.worker ≡ worker
IsStartedScans worker (scans.Here share) = IsWorker worker share
