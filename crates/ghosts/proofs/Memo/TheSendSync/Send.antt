use denote.RattleType.{RattleType}
use denote.Param.Send.{IsSend}
use Rattle.ghosts.proofs.Sent.{memo_send}
use Rattle.ghosts.specs.contracts.Memo.{the_row}

pub send : (T : RattleType) → IsSend (the_row T)
send = memo_send
