-- A survey, and then the query to all.
use Rattle.std.specs.Prelude.{Result, Ok, Err, IfOk, IfErr}
use Rattle.buslink.specs.BusLog.{BusLog}
use Rattle.commissioning.specs.declared.asking.AskFault.{AskFault}
use Rattle.commissioning.specs.declared.probing.Probed.{Probed}
use Rattle.commissioning.specs.Probing.{HasProbed, IsProbed, IsProbedInPart}

pub has_probed : (r : Result Probed AskFault) (old new : BusLog) → IfOk r (λ probed. IsProbed probed old new)
    → IfErr r (λ fault. IsProbedInPart fault old new) → HasProbed r old new
has_probed (Ok probed) old new whole broken = whole
has_probed (Err fault) old new whole broken = broken
