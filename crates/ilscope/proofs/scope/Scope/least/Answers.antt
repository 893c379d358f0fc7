use Rattle.std.proofs.Common.{subst}
use Rattle.ildeclared.specs.Faults.{IsLeastOf}
use Rattle.ilscope.specs.Faults.{IsFaultOfDeclarations}
use Rattle.ilscope.specs.Scoped.{Scoped}
use Rattle.ilscope.proofs.scope.Scope.least.Goals as goal

pub returns : goal.returns
returns c =
    subst (λ (s : Scoped). IsLeastOf (IsFaultOfDeclarations s.tree s.wiring) c.self.inside.least) c.self.view_is
    c.self.invariant
