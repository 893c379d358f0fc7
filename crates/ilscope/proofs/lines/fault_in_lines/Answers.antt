use Rattle.ildeclared.specs.Faults.{OfCause}
use Rattle.ildeclared.specs.declared.fault.NameCause.TheVariants.{Twice}
use Rattle.ildeclared.proofs.Least.{both_next}
use Rattle.ilscope.specs.UseFaults.{IsFaultOfLabels, IsGivenTwiceIn}
use Rattle.ilscope.proofs.lines.fault_in_lines.Goals as goal

pub returns : goal.returns
returns c =
    let text = c.args.scope.now.tree.text in
    rw c.lesser_of.ensures
    (both_next c.args.after (IsFaultOfLabels text c.args.lines.now)
    (OfCause Twice (IsGivenTwiceIn text c.args.lines.now))
    c.in_ok-labels.labels c.in_ok-ports.ports c.in_ok-labels.ensures c.in_ok-ports.ensures)
