use Rattle.std.proofs.Common.{◌≡◌, ◌∙◌, ap, length, List, ℕ, arith}
use Rattle.std.specs.Prelude.{bytes_eq, slice_get, Some}
use Rattle.std.specs.Map.{lookup}
use Rattle.ilsource.specs.Names.{folded}
use Rattle.ilsource.specs.SourceTrees.{Tree}
use Rattle.ildeclared.specs.declared.variable.DeclaredVariable.{DeclaredVariable}
use Rattle.ilscope.specs.Declarations.{DeclaredFunction, as_program, declared_functions}
use Rattle.ilscope.specs.ScopeSteps.{names_of_function}
use Rattle.ilscope.specs.Tables.{variable_number}
use Rattle.ilscope.proofs.Declared.{as_many, none_is, number_at}
use Rattle.ilscope.proofs.tables.Tables.variable_of_function.Goals as goal

pub index-requires : goal.index-requires
index-requires c =
    let inside = c.self.inside in
    let many =
    as_many (folded inside.source.now.text) names_of_function inside.functions.items inside.own_numbers.items
    c.self.invariant.own_numbered
    in
    let functions = ap (λ (fs : List DeclaredFunction). length fs) c.self.invariant.functions_declared in
    let here = ap (λ (t : Tree). length (declared_functions t)) c.self.view_is in
    let below = c.requires in
    omega (arith, many, functions, here, below)

pub returns-clause-value : goal.returns-clause-value
returns-clause-value c f e =
    let inside = c.self.inside in
    let tree : Tree = inside.source.now in
    let at : slice_get inside.functions.items c.args.function ≡ Some f =
    ap (λ (fs : List DeclaredFunction). slice_get fs c.args.function) c.self.invariant.functions_declared
    ∙ ap (λ (t : Tree). slice_get (declared_functions t) c.args.function) c.self.view_is
    ∙ e
    in
    c.get.ensures
    ∙ ap (λ (key : List ℕ). lookup (bytes_eq key) c.index.result.now) c.text.ensures
    ∙ number_at (λ (g : DeclaredFunction). (as_program g).variables) (λ x. x.name) tree.text c.deref.result.now
    inside.functions.items inside.own_numbers.items c.index.result.now c.args.function f c.args.name
    (c.deref.ensures.value ∙ c.self.invariant.text) c.self.invariant.own_numbered at c.index.ensures
    ∙ ap (λ (t : Tree). variable_number (folded t.text) (as_program f).variables c.args.name) c.self.view_is

pub returns-clause-none : goal.returns-clause-none
returns-clause-none c f e =
    let spelled = folded c.args.self.now.text in
    none_is (λ (v : DeclaredVariable). spelled v.name) (as_program f).variables (spelled c.args.name) c.get.result
    (returns-clause-value c f e)
