use Rattle.std.proofs.Common.{rules}
use Rattle.plantplay.specs.Expected.{IsKnown}
use Rattle.plantplay.proofs.EachWord.{each_below}
use Rattle.plantplay.proofs.meeting.are_known.Goals as goal

pub loop-number-preserved : goal.loop-number-preserved
loop-number-preserved c =
    each_below (IsKnown c.args.plan.now) c.args.expected.now c.loop-number.number _ (search rules) c.loop-number.invariant
    (c.is_known.ensures.0 (search rules))
