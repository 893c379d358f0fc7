use Rattle.std.proofs.Common.{◌+◌}
use Rattle.wordlines.proofs.TickRows.{one_tick_more}
use Rattle.wordlines.proofs.known.with_ticks.Goals as goal

pub loop-place-preserved : goal.loop-place-preserved
loop-place-preserved c =
    one_tick_more c.args.row.now (c.loop-place.place + 1) c.args.known c.loop-place.known c.in_ok-known-2.known
    c.loop-place.invariant (rw c.moment_at-moment.ensures at c.in_ok-known-2.ensures.more)
