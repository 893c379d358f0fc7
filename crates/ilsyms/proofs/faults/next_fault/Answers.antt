use Rattle.ildeclared.proofs.Least.{both_next}
use Rattle.ilscope.specs.Faults.{IsFaultOfDeclarations}
use Rattle.ilsyms.specs.Faults.{IsFaultOfUse}
use Rattle.ilsyms.proofs.faults.next_fault.Goals as goal

pub returns : goal.returns
returns c =
    let tree = c.args.scope.now.tree in
    rw c.lesser_of.ensures
    (both_next c.args.after (IsFaultOfDeclarations tree c.args.scope.now.wiring) (IsFaultOfUse tree)
    c.in_ok-next_fault.field-0 c.in_ok-used.used c.in_ok-next_fault.ensures c.in_ok-used.ensures)
