use Rattle.ilsource.specs.SourceTrees.{Tree}
use Rattle.std.proofs.Common.{subst, sym}
use Rattle.ildeclared.specs.Faults.{IsLeastOf}
use Rattle.ildeclared.proofs.FoundOrder.{first_next}
use Rattle.ilscope.specs.Faults.{IsFaultOfDeclarations}
use Rattle.ilscope.proofs.scope.Scope.of.Goals as goal

pub invariant_of-result : goal.invariant_of-result
invariant_of-result c =
    let wiring = c.args.binding.now in
    subst (λ (t : Tree). IsLeastOf (IsFaultOfDeclarations t wiring) c.in_ok-tables.least)
    (sym c.in_ok-tables.ensures.tree)
    (first_next (IsFaultOfDeclarations c.args.source.now wiring) c.in_ok-tables.least c.in_ok-tables.ensures.fault)
