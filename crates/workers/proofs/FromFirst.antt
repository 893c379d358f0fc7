-- What ended quietly since the logs of one run did so since those of before an earlier one.
use Rattle.std.proofs.Common.{◌≡◌, ◌∙◌, List, ap, length, map, sym}
use Rattle.buslink.specs.BusLog.{BusLog}
use Rattle.buslink.specs.ClockLog.{ClockLog}
use Rattle.plantevents.specs.Plants.{Plant}
use Rattle.plantturns.proofs.Counts.{grown_since}
use Rattle.workers.specs.declared.closed.ClosedParts.{ClosedParts}
use Rattle.workers.specs.Closings.{IsClosed}
use Rattle.workers.specs.Runs.{HasEndedQuietly}
use Rattle.workers.proofs.Left.{quiet_from_start}

pub quietly_from_first : {B C : Type 0} (p : Plant) (logs : List BusLog) (first : ClockLog) (bus_log : B → BusLog)
    (clock_log : C → ClockLog) (old new : ClosedParts B C) → length old.buses.items ≡ p.plan.buses
    → new.plant.plant ≡ p → IsClosed p logs first bus_log clock_log old
    → HasEndedQuietly (map bus_log old.buses.items) (clock_log old.clock) bus_log clock_log new
    → HasEndedQuietly logs first bus_log clock_log new
quietly_from_first p logs first bus_log clock_log old new count same closed quietly =
    let ended = quietly.clock in
    record {
      clock = record {
        grown =
            grown_since first.asks (clock_log old.clock).asks (clock_log new.clock).asks closed.asks ended.grown;
        none = ended.none;
        all = ended.all;
      };
      quiet =
          quiet_from_start p logs first bus_log clock_log old new.plant (map bus_log new.buses.items)
          (count ∙ ap (λ (q : Plant). q.plan.buses) (sym closed.plant)) (same ∙ sym closed.plant) closed
          quietly.quiet;
    }
