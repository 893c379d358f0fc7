-- The links with their Shares, when nothing is under way.
use Rattle.std.specs.Prelude.{◌≡◌, ℕ, List, length}
use Rattle.buslink.specs.BusLog.{BusLog}
use Rattle.buslink.specs.ClockLog.{ClockLog}
use Rattle.plantturns.specs.Each.{Each}
use Rattle.plantturns.specs.Receipts.{ShareParts}
use Rattle.plantturns.specs.declared.bus_worker.BusWithShare.{BusWithShare}
use Rattle.workers.specs.declared.linked_shares.LinkedShares.{LinkedShares}
use Rattle.plantturns.specs.Links.{log_of}
use Rattle.plantturns.specs.Logs.{IsServed, IsTimed, IsWorker}

-- each bus by its number, where the first has the number n
abbrev pub AreServed : {B J T : Type 0} → List BusLog → (B → BusLog) → ℕ → List (BusWithShare B J T) → Type 0
AreServed logs log n served = Each (λ k s. IsServed (log_of logs k) k s.share (log s.line)) n served

-- each scan worker by its number, where the first has the number n
abbrev pub AreWorkers : ℕ → List ShareParts → Type 0
AreWorkers n shares = Each IsWorker n shares

-- nothing is open, and what went over the links since the first logs is what the Shares have receipts for
pub record AreLinkedShares {B C J T : Type 0} (logs : List BusLog) (first : ClockLog) (bus_log : B → BusLog)
    (clock_log : C → ClockLog) (linked : LinkedShares B C J T) : Type 0 where
  pub buses : AreServed logs bus_log 0 linked.buses.items
  pub workers : AreWorkers 0 linked.workers.items
  pub timed : IsTimed first linked.timed.share (clock_log linked.timed.clock)

-- as many of each
pub record HasSameCounts {B C J T : Type 0} (before after : LinkedShares B C J T) : Type 0 where
  pub buses : length after.buses.items ≡ length before.buses.items
  pub workers : length after.workers.items ≡ length before.workers.items
