use Rattle.std.proofs.Common.{subst, sym}
use Rattle.ilsource.specs.SourceTrees.{Tree}
use Rattle.ildeclared.specs.Faults.{IsNextOf}
use Rattle.ildeclared.specs.Order.{lesser_of_two}
use Rattle.ilscope.specs.Faults.{IsFaultOfDeclarations}
use Rattle.ilscope.specs.ScopeSteps.{IsFaultInTables}
use Rattle.ilscope.specs.Scoped.{Scoped}
use Rattle.ilscope.proofs.LeastOfDeclarations.{all_declared}
use Rattle.ilscope.proofs.scope.tables_with_fault.Goals as goal

pub returns-clause-fault : goal.returns-clause-fault
returns-clause-fault c =
    let wiring = c.args.binding.now in
    let tree : Tree = c.in_ok-tables.tables in
    let filled = c.in_ok-tables.filled in
    let configured = c.in_ok-configured.configured in
    let scoped : Scoped = record { tree = tree; wiring = wiring } in
    rw c.lesser_of.ensures
    (subst (λ (t : Tree). IsNextOf c.args.after (IsFaultOfDeclarations t wiring) (lesser_of_two filled configured))
    c.in_ok-tables.ensures.tree
    (all_declared scoped c.args.after filled configured
    (subst (λ (t : Tree). IsNextOf c.args.after (IsFaultInTables t) filled) (sym c.in_ok-tables.ensures.tree)
    c.in_ok-tables.ensures.least) c.in_ok-configured.ensures))
