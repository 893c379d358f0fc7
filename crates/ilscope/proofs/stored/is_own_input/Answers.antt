use Rattle.std.proofs.Common.{◌≡◌, ◌∙◌, ◌<◌, ◌++◌, ℕ, List, length, get_or, ap, sym, arith, refl, inl}
use Rattle.std.proofs.lemmas.Option.{get_or_from_slice_get}
use Rattle.std.proofs.lemmas.Grind.{common_steps}
use Rattle.std.specs.Prelude.{Bool, IsNone, IsTrue, nat_lt, Some, option_map}
use Rattle.ilsource.specs.Names.{SameName}
use Rattle.ildeclared.proofs.Parts.{some_in_either}
use Rattle.ildeclared.specs.declared.variable.DeclaredVariable.{DeclaredVariable}
use Rattle.ilscope.specs.Declarations.{DeclaredFunction, as_program, declared_functions}
use Rattle.ilscope.specs.Tables.{first_at}
use Rattle.ilscope.proofs.LeastOfDeclarations.{some_of}
use Rattle.ilscope.specs.SameNames.{same_name}
use Rattle.ilscope.proofs.FunctionsFound.{front_first, in_front}
use Rattle.ilscope.proofs.SameNames.{alike, same_as}
use Rattle.ilscope.proofs.stored.is_own_input.Goals as goal

below_of : (k n m : ℕ) → n ≡ m → IsTrue (nat_lt k n) → k < m
below_of k n m e is = grind (arith, common_steps)

is_below : (k n m : ℕ) → n ≡ m → k < m → IsTrue (nat_lt k n)
is_below k n m e below = grind (arith, common_steps)

pub returns-in-Some : goal.returns-in-Some
returns-in-Some c f at =
    let tree = c.args.scope.now.tree in
    let name = c.args.name in
    let number = c.in-Some.variable in
    let test : DeclaredVariable → Bool = λ v. same_name tree.text name v.name in
    let found : first_at test (f.inputs ++ f.variables) ≡ Some number =
    sym (c.variable_number.ensures.value (as_program f) (ap (λ o. option_map as_program o) at)) ∙ c.in-Some.is
    in
    let read : c.index-functions-number.result
    ≡ get_or (declared_functions tree) c.args.number c.index-functions-number.result =
    rw (sym c.functions.ensures.value) c.index-functions-number.is
    in
    let its : c.index-functions-number.result ≡ f =
    read ∙ get_or_from_slice_get (declared_functions tree) c.args.number f _ at
    in
    let many : length c.inputs.result.now ≡ length f.inputs =
    ap (λ (vs : List DeclaredVariable). length vs) c.inputs.ensures.value
    ∙ ap (λ (g : DeclaredFunction). length g.inputs) its
    in (
      (λ below. some_of (λ v is. alike tree.text name v.name is) f.inputs
          (in_front test f.inputs f.variables number found (below_of number _ (length f.inputs) many below))),
      (λ some.
          let below : number < length f.inputs =
          front_first test f.inputs f.variables number found
          (some_of (λ v is. same_as tree.text name v.name is) f.inputs some)
          in
          is_below number _ (length f.inputs) many below),
    )

pub returns-in-None : goal.returns-in-None
returns-in-None c f at =
    let tree = c.args.scope.now.tree in
    let none : IsNone c.variable_number.result = rw c.in-None.is refl in (
      (λ no. absurd cc),
      (λ some. absurd
          ((c.variable_number.ensures.none (as_program f) (ap (λ o. option_map as_program o) at)).0 none
          (some_in_either (λ (v : DeclaredVariable). SameName tree.text c.args.name v.name) f.inputs f.variables
          (inl some)))),
    )
