use Rattle.ilsource.specs.Uses.{uses_in}
use Rattle.ilplan.proofs.CallsAdded.{one_more_added}
use Rattle.ilplan.proofs.usage.add_lines.Goals as goal

pub loop-line-preserved : goal.loop-line-preserved
loop-line-preserved c =
    one_more_added c.args.below uses_in c.args.lines.now c.loop-line.line-index c.line-item.result _ _ _
    c.loop-line-test.true c.line-item.is c.loop-line.invariant c.add_line.ensures
