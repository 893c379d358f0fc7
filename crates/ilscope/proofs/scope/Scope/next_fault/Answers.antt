use Rattle.std.proofs.Common.{subst}
use Rattle.ilsource.specs.SourceTrees.{Tree}
use Rattle.ildeclared.specs.Faults.{IsNextOf}
use Rattle.ilscope.specs.Faults.{IsFaultOfDeclarations}
use Rattle.ilscope.specs.Scoped.{Scoped}
use Rattle.ilscope.proofs.scope.Scope.next_fault.Goals as goal

pub returns : goal.returns
returns c =
    let found = c.in_ok-found.found in
    subst (λ (s : Scoped). IsNextOf c.args.after (IsFaultOfDeclarations s.tree s.wiring) found) c.self.view_is
    (subst (λ (t : Tree). IsNextOf c.args.after (IsFaultOfDeclarations t c.self.inside.binding.now) found)
    c.source.ensures.value c.in_ok-found.ensures.fault)
