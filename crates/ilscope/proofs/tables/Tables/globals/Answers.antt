use Rattle.std.proofs.Common.{subst, sym, List, ◌∙◌}
use Rattle.std.specs.Prelude.{All}
use Rattle.ildeclared.specs.declared.global.DeclaredGlobal.{DeclaredGlobal}
use Rattle.ilscope.proofs.Typed.{IsTypedGlobal, declared_typed_globals}
use Rattle.ilscope.proofs.tables.Tables.globals.Goals as goal

pub returns-clause-typed : goal.returns-clause-typed
returns-clause-typed c =
    subst (λ (gs : List DeclaredGlobal). All IsTypedGlobal gs)
    (sym (c.deref.ensures.value ∙ c.self.invariant.global_variables))
    (declared_typed_globals c.self.inside.source.now)
