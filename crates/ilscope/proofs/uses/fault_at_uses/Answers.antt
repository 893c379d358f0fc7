use Rattle.ildeclared.specs.Faults.{SomeOf}
use Rattle.ildeclared.proofs.FoundOrder.{next_same}
use Rattle.ildeclared.proofs.Least.{both_next}
use Rattle.ilscope.specs.Declarations.{declared_functions, declared_programs}
use Rattle.ilscope.specs.UseFaults.{IsFaultAtUses, IsFaultInFunction}
use Rattle.ilscope.specs.Uses.{uses_of}
use Rattle.ilscope.proofs.Bodies.{from_bodies, to_bodies}
use Rattle.ilscope.proofs.uses.fault_at_uses.Goals as goal

pub returns : goal.returns
returns c =
    let tree = c.args.scope.now.tree in
    rw c.lesser_of.ensures
    (next_same c.args.after _ _ _ (λ place cause s. to_bodies tree place cause s)
    (λ place cause s. from_bodies tree place cause s)
    (both_next c.args.after
    (λ place cause. SomeOf (λ p. IsFaultAtUses tree p (uses_of p.program.lines) place cause) (declared_programs tree))
    (λ place cause. SomeOf (λ f. IsFaultInFunction tree f place cause) (declared_functions tree))
    c.in_ok-programs.programs c.in_ok-functions.functions c.in_ok-programs.ensures c.in_ok-functions.ensures))
