use Rattle.std.proofs.Common.{◌≡◌, take}
use Rattle.std.specs.Prelude.{Some}
use Rattle.ildeclared.specs.Faults.{IsNextOf}
use Rattle.ilscope.specs.Declarations.{body_at, DeclaredProgram}
use Rattle.ilscope.specs.UseFaults.{IsFaultAtUses}
use Rattle.ilscope.proofs.uses.fault_in_uses.Given as goal

abbrev pub invariant-loop-used : goal.invariant-loop-used
invariant-loop-used l =
    (p : DeclaredProgram) → body_at l.scope.tree l.body ≡ Some p
    → IsNextOf l.after (IsFaultAtUses l.scope.tree p (take l.used-index l.uses)) l.least
