use denote.RattleType.{RattleType}
use denote.Param.Send.{IsSync}
use Rattle.ghosts.proofs.Sent.{memo_sync}
use Rattle.ghosts.specs.contracts.Memo.{the_row}

pub sync : (T : RattleType) → IsSync (the_row T)
sync = memo_sync
