use Rattle.ilsyms.proofs.FaultParts.{least_of_uses}
use Rattle.ilsyms.proofs.faults.fault_of_uses.Goals as goal

pub returns : goal.returns
returns c =
    rw (c.lesser_of-3.ensures, c.lesser_of.ensures, c.lesser_of-2.ensures)
    (least_of_uses c.args.scope.now.tree c.args.after c.in_ok-used.used c.in_ok-lines.lines c.in_ok-written.written
    c.in_ok-many.many
    c.in_ok-used.ensures c.in_ok-lines.ensures c.in_ok-written.ensures c.in_ok-many.ensures)
