use Rattle.std.proofs.Common.{subst, sym, List, ◌∙◌}
use Rattle.std.specs.Prelude.{All}
use Rattle.ilscope.specs.Declarations.{DeclaredFunction}
use Rattle.ilscope.proofs.Typed.{IsTypedVariable, declared_typed_functions}
use Rattle.ilscope.proofs.tables.Tables.functions.Goals as goal

pub returns-clause-typed : goal.returns-clause-typed
returns-clause-typed c =
    subst (λ (fs : List DeclaredFunction). All (λ f. All IsTypedVariable f.variables) fs)
    (sym (c.deref.ensures.value ∙ c.self.invariant.functions_declared))
    (declared_typed_functions c.self.inside.source.now)
