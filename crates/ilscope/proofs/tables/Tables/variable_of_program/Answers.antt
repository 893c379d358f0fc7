use Rattle.std.proofs.Common.{◌≡◌, ◌∙◌, ap, length, List, ℕ, arith}
use Rattle.std.specs.Prelude.{bytes_eq, slice_get, Some}
use Rattle.std.specs.Map.{lookup}
use Rattle.ilsource.specs.Names.{folded}
use Rattle.ilsource.specs.SourceTrees.{Tree}
use Rattle.ildeclared.specs.declared.variable.DeclaredVariable.{DeclaredVariable}
use Rattle.ilscope.specs.Declarations.{DeclaredProgram, declared_programs}
use Rattle.ilscope.specs.ScopeSteps.{variable_names}
use Rattle.ilscope.specs.Tables.{variable_number}
use Rattle.ilscope.proofs.Declared.{as_many, none_is, number_at}
use Rattle.ilscope.proofs.tables.Tables.variable_of_program.Goals as goal

pub index-requires : goal.index-requires
index-requires c =
    let inside = c.self.inside in
    let many =
    as_many (folded inside.source.now.text) variable_names inside.programs.items inside.variable_numbers.items
    c.self.invariant.variables_numbered
    in
    let programs = ap (λ (ps : List DeclaredProgram). length ps) c.self.invariant.declared in
    let here = ap (λ (t : Tree). length (declared_programs t)) c.self.view_is in
    let below = c.requires in
    omega (arith, many, programs, here, below)

pub returns-clause-value : goal.returns-clause-value
returns-clause-value c p e =
    let inside = c.self.inside in
    let tree : Tree = inside.source.now in
    let at : slice_get inside.programs.items c.args.program ≡ Some p =
    ap (λ (ps : List DeclaredProgram). slice_get ps c.args.program) c.self.invariant.declared
    ∙ ap (λ (t : Tree). slice_get (declared_programs t) c.args.program) c.self.view_is
    ∙ e
    in
    c.get.ensures
    ∙ ap (λ (key : List ℕ). lookup (bytes_eq key) c.index.result.now) c.text.ensures
    ∙ number_at (λ (q : DeclaredProgram). q.variables) (λ x. x.name) tree.text c.deref.result.now inside.programs.items
    inside.variable_numbers.items c.index.result.now c.args.program p c.args.name
    (c.deref.ensures.value ∙ c.self.invariant.text) c.self.invariant.variables_numbered at c.index.ensures
    ∙ ap (λ (t : Tree). variable_number (folded t.text) p.variables c.args.name) c.self.view_is

pub returns-clause-none : goal.returns-clause-none
returns-clause-none c p e =
    let spelled = folded c.args.self.now.text in
    none_is (λ (v : DeclaredVariable). spelled v.name) p.variables (spelled c.args.name) c.get.result
    (returns-clause-value c p e)
