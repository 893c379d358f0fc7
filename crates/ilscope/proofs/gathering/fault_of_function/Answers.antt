use Rattle.std.proofs.Common.{ℕ, List, subst, ◌⊎◌, inl, inr}
use Rattle.ilsource.specs.Programs.{DeclaredNames}
use Rattle.ildeclared.specs.Declarations.{result_declaration}
use Rattle.ildeclared.specs.Faults.{IsFaultIn, IsNextOf, SomeOf}
use Rattle.ildeclared.specs.Kept.{types_in}
use Rattle.ildeclared.specs.declared.fault.NameCause.{NameCause}
use Rattle.ildeclared.proofs.FoundOrder.{next_same, or_else}
use Rattle.ildeclared.proofs.Least.{both_next}
use Rattle.ildeclared.proofs.Parts.{some_in_either, some_of_either}
use Rattle.ilscope.proofs.gathering.fault_of_function.Goals as goal

pub returns : goal.returns
returns c =
    let f = c.args.function.now in
    let types = types_in c.args.lower.now c.args.types.now in
    let P = λ (place : ℕ) (cause : NameCause) (d : DeclaredNames). IsFaultIn types d place cause in
    let inputs = c.fault_of_all-inputs.result in
    let variables = c.fault_of_all-variables.result in
    let of_inputs : IsNextOf c.args.after (λ place cause. SomeOf (P place cause) f.inputs) inputs =
    subst (λ (ds : List DeclaredNames). IsNextOf c.args.after (λ place cause. SomeOf (P place cause) ds) inputs)
    c.inputs.ensures.value c.fault_of_all-inputs.ensures
    in
    let of_variables : IsNextOf c.args.after (λ place cause. SomeOf (P place cause) f.variables) variables =
    subst (λ (ds : List DeclaredNames). IsNextOf c.args.after (λ place cause. SomeOf (P place cause) ds) variables)
    c.variables.ensures.value c.fault_of_all-variables.ensures
    in
    rw (c.lesser_of-2.ensures, c.lesser_of.ensures)
    (next_same c.args.after _ _ _
    (λ place cause s. or_else (λ p. inl p) (λ t. inr (some_in_either (P place cause) f.inputs f.variables t)) s)
    (λ place cause s. or_else (λ p. inl p) (λ t. inr (some_of_either (P place cause) f.inputs f.variables t)) s)
    (both_next c.args.after (IsFaultIn types (result_declaration f))
    (λ place cause. SomeOf (P place cause) f.inputs ⊎ SomeOf (P place cause) f.variables) _ _
    c.fault_of_result.ensures
    (both_next c.args.after (λ place cause. SomeOf (P place cause) f.inputs)
    (λ place cause. SomeOf (P place cause) f.variables)
    inputs variables of_inputs of_variables)))
