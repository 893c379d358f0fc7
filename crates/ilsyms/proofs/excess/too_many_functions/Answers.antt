use Rattle.std.proofs.Common.{◌≡◌, ℕ, List, ap, map, ◌∙◌, subst}
use Rattle.std.specs.Prelude.{Some, slice_get}
use Rattle.limits.specs.Limits.{most_functions, most_inputs}
use Rattle.ildeclared.specs.Faults.{IsNextOf, OfCause, SomeOf}
use Rattle.ildeclared.specs.declared.fault.NameCause.TheVariants.{TooMany}
use Rattle.ilscope.specs.Declarations.{DeclaredFunction, declared_functions}
use Rattle.ilsyms.specs.Faults.{AreTooDeep}
use Rattle.ilsyms.proofs.ExcessFaults.{least_of_functions}
use Rattle.ilsyms.proofs.excess.too_many_functions.Goals as goal

pub returns : goal.returns
returns c =
    let tree = c.args.scope.now.tree in
    let inputs = subst
    (λ (fs : List DeclaredFunction). IsNextOf c.args.after (OfCause TooMany (λ place. SomeOf
    (λ f. slice_get (map (λ v. v.name.from) f.inputs) most_inputs ≡ Some place) fs)) c.too_many_inputs-inputs.result)
    c.functions-2.ensures.value c.too_many_inputs-inputs.ensures in
    let deep = subst
    (λ (fs : List DeclaredFunction). IsNextOf c.args.after (OfCause TooMany (AreTooDeep fs c.deref.result.now))
    c.too_deep.result)
    c.functions-3.ensures.value c.too_deep.ensures in
    let both = subst
    (λ (ds : List ℕ). IsNextOf c.args.after (OfCause TooMany (AreTooDeep (declared_functions tree) ds))
    c.too_deep.result)
    (c.deref.ensures.value ∙ c.in_ok-depths.ensures) deep in
    rw (c.lesser_of-2.ensures, c.lesser_of.ensures)
    (least_of_functions tree c.args.after c.function_past.result c.exceeding-number.result
    c.too_many_inputs-inputs.result
    c.too_deep.result
    (c.function_past.ensures
    ∙ ap (λ (fs : List DeclaredFunction). slice_get (map (λ f. f.function.name.from) fs) most_functions)
    c.functions.ensures.value)
    c.exceeding-number.ensures inputs both)
