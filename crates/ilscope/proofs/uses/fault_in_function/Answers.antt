use Rattle.std.proofs.Common.{List, ap, subst, ◌⊎◌}
use Rattle.std.specs.Prelude.{option_map}
use Rattle.ilsource.specs.declared.uses.Use.{Use}
use Rattle.ilsource.specs.declared.symbol.Symbol.{Symbol}
use Rattle.ildeclared.specs.Faults.{IsNextOf}
use Rattle.ildeclared.specs.Order.{lesser_of_two}
use Rattle.ildeclared.proofs.Least.{both_next}
use Rattle.ilscope.specs.Declarations.{as_program}
use Rattle.ilscope.specs.UseFaults.{IsFaultAtInputs, IsFaultAtUses}
use Rattle.ilscope.proofs.uses.fault_in_function.Goals as goal

pub returns : goal.returns
returns c f at same =
    let tree = c.args.scope.now.tree in
    let uses = c.args.uses.now in
    let least : IsNextOf c.args.after
    (λ place cause. IsFaultAtUses tree (as_program f) uses place cause ⊎ IsFaultAtInputs tree.text f uses place cause)
    (lesser_of_two c.fault_in_uses-used.result c.fault_at_inputs.result) =
    both_next c.args.after (IsFaultAtUses tree (as_program f) uses) (IsFaultAtInputs tree.text f uses)
    c.fault_in_uses-used.result
    c.fault_at_inputs.result
    (c.fault_in_uses-used.ensures (as_program f) (ap (λ o. option_map as_program o) at))
    (c.fault_at_inputs.ensures f at)
    in
    rw c.lesser_of.ensures
    (subst (λ (us : List (Use Symbol)). IsNextOf c.args.after
    (λ place cause. IsFaultAtUses tree (as_program f) us place cause ⊎ IsFaultAtInputs tree.text f us place cause)
    (lesser_of_two c.fault_in_uses-used.result c.fault_at_inputs.result)) same least)
