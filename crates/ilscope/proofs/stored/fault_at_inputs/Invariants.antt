use Rattle.std.proofs.Common.{◌≡◌, take}
use Rattle.std.specs.Prelude.{Some, slice_get}
use Rattle.ildeclared.specs.Faults.{IsNextOf}
use Rattle.ilscope.specs.Declarations.{declared_functions, DeclaredFunction}
use Rattle.ilscope.specs.UseFaults.{IsFaultAtInputs}
use Rattle.ilscope.proofs.stored.fault_at_inputs.Given as goal

abbrev pub invariant-loop-used : goal.invariant-loop-used
invariant-loop-used l =
    (f : DeclaredFunction) → slice_get (declared_functions l.scope.tree) l.number ≡ Some f
    → IsNextOf l.after (IsFaultAtInputs l.scope.tree.text f (take l.used-index l.uses)) l.least
