use Rattle.std.proofs.Common.{subst, sym, List, ◌∙◌}
use Rattle.std.specs.Prelude.{All}
use Rattle.ilscope.specs.Declarations.{DeclaredProgram}
use Rattle.ilscope.proofs.Typed.{IsTypedVariable, declared_typed_programs}
use Rattle.ilscope.proofs.tables.Tables.programs.Goals as goal

pub returns-clause-typed : goal.returns-clause-typed
returns-clause-typed c =
    subst (λ (ps : List DeclaredProgram). All (λ p. All IsTypedVariable p.variables) ps)
    (sym (c.deref.ensures.value ∙ c.self.invariant.declared))
    (declared_typed_programs c.self.inside.source.now)
