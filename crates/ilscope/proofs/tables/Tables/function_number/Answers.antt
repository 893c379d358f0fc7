use Rattle.std.proofs.Common.{◌∙◌, ap, List, ℕ}
use Rattle.std.specs.Prelude.{bytes_eq}
use Rattle.std.specs.Map.{lookup}
use Rattle.ilsource.specs.Names.{folded}
use Rattle.ilsource.specs.SourceTrees.{Tree}
use Rattle.ilscope.specs.Configured.{function_number}
use Rattle.ilscope.specs.Declarations.{DeclaredFunction, declared_functions}
use Rattle.ilscope.proofs.Declared.{none_is, number_is}
use Rattle.ilscope.proofs.tables.Tables.function_number.Goals as goal

pub returns-clause-value : goal.returns-clause-value
returns-clause-value c =
    let inside = c.self.inside in
    let tree : Tree = inside.source.now in
    c.get.ensures
    ∙ ap (λ (key : List ℕ). lookup (bytes_eq key) inside.function_numbers) c.text.ensures
    ∙ number_is (λ (x : DeclaredFunction). x.function.name) (declared_functions tree) tree.text c.deref.result.now
    inside.function_numbers c.args.name
    (c.deref.ensures.value ∙ c.self.invariant.text) c.self.invariant.functions_numbered
    ∙ ap (λ (t : Tree). function_number t c.args.name) c.self.view_is

pub returns-clause-none : goal.returns-clause-none
returns-clause-none c =
    let spelled = folded c.args.self.now.text in
    none_is (λ (x : DeclaredFunction). spelled x.function.name) (declared_functions c.args.self.now)
    (spelled c.args.name) c.get.result
    (returns-clause-value c)
