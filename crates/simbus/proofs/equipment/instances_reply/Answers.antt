use Rattle.std.proofs.Common.{arith}
use Rattle.simbus.proofs.Replies.{replies_end}
use Rattle.simbus.proofs.equipment.instances_reply.Goals as goal

pub returns : goal.returns
returns c = replies_end _ _ _ c.loop-live.live-index (omega arith) c.loop-live.invariant
