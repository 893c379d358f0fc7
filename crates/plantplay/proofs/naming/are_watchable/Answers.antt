use Rattle.std.proofs.Common.{rules}
use Rattle.plantplay.specs.Watched.{IsWatchable}
use Rattle.plantplay.proofs.EachName.{each_below}
use Rattle.plantplay.proofs.naming.are_watchable.Goals as goal

pub loop-number-preserved : goal.loop-number-preserved
loop-number-preserved c =
    each_below (λ name. IsWatchable c.args.plan.now name.now) c.args.names.now c.loop-number.number _ (search rules)
    c.loop-number.invariant (c.is_watchable.ensures.0 (search rules))
