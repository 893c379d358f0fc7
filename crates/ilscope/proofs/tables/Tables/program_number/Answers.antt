use Rattle.std.proofs.Common.{◌∙◌, ap, List, ℕ}
use Rattle.std.specs.Prelude.{bytes_eq}
use Rattle.std.specs.Map.{lookup}
use Rattle.ilsource.specs.Names.{folded}
use Rattle.ilsource.specs.SourceTrees.{Tree}
use Rattle.ilscope.specs.Configured.{program_number}
use Rattle.ilscope.specs.Declarations.{DeclaredProgram, declared_programs}
use Rattle.ilscope.proofs.Declared.{none_is, number_is}
use Rattle.ilscope.proofs.tables.Tables.program_number.Goals as goal

pub returns-clause-value : goal.returns-clause-value
returns-clause-value c =
    let inside = c.self.inside in
    let tree : Tree = inside.source.now in
    c.get.ensures
    ∙ ap (λ (key : List ℕ). lookup (bytes_eq key) inside.program_numbers) c.text.ensures
    ∙ number_is (λ (x : DeclaredProgram). x.program.name) (declared_programs tree) tree.text c.deref.result.now
    inside.program_numbers c.args.name
    (c.deref.ensures.value ∙ c.self.invariant.text) c.self.invariant.programs_numbered
    ∙ ap (λ (t : Tree). program_number t c.args.name) c.self.view_is

pub returns-clause-none : goal.returns-clause-none
returns-clause-none c =
    let spelled = folded c.args.self.now.text in
    none_is (λ (x : DeclaredProgram). spelled x.program.name) (declared_programs c.args.self.now)
    (spelled c.args.name) c.get.result
    (returns-clause-value c)
