use Rattle.livehouse.proofs.Lineups.{one_more}
use Rattle.livehouse.proofs.lineup.missing_in.Goals as goal

pub loop-bus-preserved : goal.loop-bus-preserved
loop-bus-preserved c =
    one_more c.args.words.now c.loop-bus.bus c.in-Some._line.now c.loop-bus.invariant c.in-Some.ensures
