-- Logs that differ in whether the interface answers again, and in nothing else.
use Rattle.std.proofs.Common.{◌≡◌, Bool, false, ap}
use Rattle.buslink.specs.BusLog.{BusLog, after_mend}

pub alike : (answers : Bool) (one other : BusLog) → after_mend false one ≡ after_mend false other
    → after_mend answers one ≡ after_mend answers other
alike answers one other same = ap (λ (log : BusLog). after_mend answers log) same
