-- A `Snapshot` owns nothing, so it may go to any thread, and any thread may share it.
use denote.RattleType.{RattleType}
use denote.Param.Send.{IsSend, IsSync, part_keyless}
use Rattle.ghosts.specs.contracts.Memo.{the_row}

pub memo_send : (Y : RattleType) → IsSend (the_row Y)
memo_send Y = record { owned = λ d vs. ((λ vss. (tt, ((λ uss. (tt, tt)), tt))), tt); leaving = λ k f vs. tt }

pub memo_sync : (Y : RattleType) → IsSync (the_row Y)
memo_sync Y = record { shared = λ d b o κ q. part_keyless (the_row Y) (memo_send Y) q d b o }
