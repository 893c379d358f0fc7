use Rattle.refusalsplant.proofs.Filed.{on_ok, shows_moment}
use Rattle.refusalsplant.proofs.locks.receipt_has_the_moment.Goals as goal

pub returns : goal.returns
returns g c =
    on_ok c.tick.result c.tick.ensures.noted (λ filed.
    shows_moment c.args.share.now c.tick.new.share filed.0 c.args.moment filed.1)
