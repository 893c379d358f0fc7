use Rattle.std.proofs.Common.{◌∙◌}
use Rattle.std.specs.Arc.{arc_value}
use Rattle.textanswers.proofs.MadeScans.{one_more}
use Rattle.textanswers.proofs.scans.make.Goals as goal

pub loop-number-preserved : goal.loop-number-preserved
loop-number-preserved c =
    let code = arc_value c.args.code.now in
    let made = c.loop-number.invariant in
    let left = c.loop-number.left in
    let next = c.in_ok-taken.ensures in
    let moment = rw (c.from.ensures, c.from-in-loop-number.ensures) at next.moment in
    let more = one_more code left.verified c.args.every c.loop-number.number left.moment _ _ _ _ _ made.0 made.1 made.2
    next.scan in
    (rw c.in_ok-push.ensures.items more, next.code ∙ made.1, moment)
