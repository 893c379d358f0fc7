use Rattle.std.proofs.Common.{arith}
use Rattle.ilmachine.proofs.StoredSlots.{stores_done}
use Rattle.ilmachine.proofs.task_row.stores_of.Goals as goal

pub returns : goal.returns
returns c =
    let l = c.loop-slot in
    stores_done c.args.externals.now l.slot l.stores.items (omega arith) l.invariant
