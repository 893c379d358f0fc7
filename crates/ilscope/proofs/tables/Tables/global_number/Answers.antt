use Rattle.std.proofs.Common.{◌∙◌, ap, List, ℕ}
use Rattle.std.specs.Prelude.{bytes_eq}
use Rattle.std.specs.Map.{lookup}
use Rattle.ilsource.specs.Names.{folded}
use Rattle.ilsource.specs.SourceTrees.{Tree}
use Rattle.ildeclared.specs.declared.global.DeclaredGlobal.{DeclaredGlobal}
use Rattle.ilscope.specs.Configured.{global_number, globals_of}
use Rattle.ilscope.proofs.Declared.{none_is, number_is}
use Rattle.ilscope.proofs.tables.Tables.global_number.Goals as goal

pub returns-clause-value : goal.returns-clause-value
returns-clause-value c =
    let inside = c.self.inside in
    let tree : Tree = inside.source.now in
    c.get.ensures
    ∙ ap (λ (key : List ℕ). lookup (bytes_eq key) inside.global_numbers) c.text.ensures
    ∙ number_is (λ (x : DeclaredGlobal). x.name) (globals_of tree) tree.text c.deref.result.now inside.global_numbers
    c.args.name
    (c.deref.ensures.value ∙ c.self.invariant.text) c.self.invariant.globals_numbered
    ∙ ap (λ (t : Tree). global_number t c.args.name) c.self.view_is

pub returns-clause-none : goal.returns-clause-none
returns-clause-none c =
    let spelled = folded c.args.self.now.text in
    none_is (λ (x : DeclaredGlobal). spelled x.name) (globals_of c.args.self.now) (spelled c.args.name) c.get.result
    (returns-clause-value c)
