use Rattle.ilscope.proofs.JumpFaults.{labels_of_program}
use Rattle.ilscope.proofs.lines.fault_of_labels.Goals as goal

pub returns : goal.returns
returns c =
    rw c.lesser_of.ensures
    (labels_of_program c.args.after c.args.scope.now.tree.text c.args.lines.now c.in_ok-labels.twice
    c.fault_of_jumps.result
    c.in_ok-labels.ensures.twice c.fault_of_jumps.ensures)
