use Rattle.std.proofs.Common.{◌≡◌, take}
use Rattle.std.specs.Prelude.{Some}
use Rattle.ildeclared.specs.Faults.{IsNextOf, OfCause}
use Rattle.ildeclared.specs.declared.fault.NameCause.TheVariants.{BadDeclaration}
use Rattle.ilscope.specs.Declarations.{body_at, DeclaredProgram}
use Rattle.ilscope.specs.UseFaults.{IsWrongIn}
use Rattle.ilscope.proofs.calls.fault_of_calls.Given as goal

abbrev pub invariant-loop-call : goal.invariant-loop-call
invariant-loop-call l =
    (p : DeclaredProgram) → body_at l.scope.tree l.body ≡ Some p
    → IsNextOf l.after (OfCause BadDeclaration (λ place. IsWrongIn l.scope.tree p place
    (take l.call-index l.call-items)))
    l.least
