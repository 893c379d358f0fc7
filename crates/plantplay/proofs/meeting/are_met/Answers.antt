use Rattle.std.proofs.Common.{rules}
use Rattle.plantplay.specs.Expected.{IsMet}
use Rattle.plantplay.proofs.EachWord.{each_below}
use Rattle.plantplay.proofs.meeting.are_met.Goals as goal

pub loop-number-preserved : goal.loop-number-preserved
loop-number-preserved c =
    each_below (IsMet c.args.plant.now) c.args.expected.now c.loop-number.number _ (search rules) c.loop-number.invariant
    (c.is_met.ensures.0 (search rules))
