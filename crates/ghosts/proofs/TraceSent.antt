-- A `Trace` owns nothing, so it may go to any thread, and any thread may share it.
use denote.RattleType.{RattleType}
use denote.Param.Send.{IsSend, IsSync, part_keyless}
use Rattle.ghosts.specs.contracts.trace.Trace.{the_row}

pub trace_send : (Y : RattleType) → IsSend (the_row Y)
trace_send Y = record { owned = λ d vs. ((λ vss. (tt, ((λ uss. (tt, tt)), tt))), tt); leaving = λ k f vs. tt }

pub trace_sync : (Y : RattleType) → IsSync (the_row Y)
trace_sync Y = record { shared = λ d b o κ q. part_keyless (the_row Y) (trace_send Y) q d b o }
