use denote.RattleType.{RattleType}
use denote.Param.Send.{IsSend}
use Rattle.ghosts.proofs.TraceSent.{trace_send}
use Rattle.ghosts.specs.contracts.trace.Trace.{the_row}

pub send : (T : RattleType) → IsSend (the_row T)
send = trace_send
