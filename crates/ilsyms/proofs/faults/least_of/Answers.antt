use Rattle.ildeclared.proofs.FoundOrder.{first_next}
use Rattle.ildeclared.proofs.Least.{both_least}
use Rattle.ilscope.specs.Faults.{IsFaultOfDeclarations}
use Rattle.ilsyms.specs.Faults.{IsFaultOfUse}
use Rattle.ilsyms.proofs.faults.least_of.Goals as goal

pub returns : goal.returns
returns c =
    let tree = c.args.scope.now.tree in
    rw c.lesser_of.ensures
    (both_least (IsFaultOfDeclarations tree c.args.scope.now.wiring) (IsFaultOfUse tree) c.least.result
    c.in_ok-used.used c.least.ensures (first_next (IsFaultOfUse tree) c.in_ok-used.used c.in_ok-used.ensures))
