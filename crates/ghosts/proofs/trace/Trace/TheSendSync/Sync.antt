use denote.RattleType.{RattleType}
use denote.Param.Send.{IsSync}
use Rattle.ghosts.proofs.TraceSent.{trace_sync}
use Rattle.ghosts.specs.contracts.trace.Trace.{the_row}

pub sync : (T : RattleType) → IsSync (the_row T)
sync = trace_sync
