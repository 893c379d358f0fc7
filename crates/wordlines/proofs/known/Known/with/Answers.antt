use Rattle.std.proofs.Common.{◌∙◌, [], ◌∷◌, ◌++◌, List, ap, sym}
use Rattle.std.specs.HashSet.{contains}
use Rattle.std.specs.List.{list_any}
use Rattle.wordlines.specs.Known.{declares}
use Rattle.wordlines.specs.contracts.known.DeclarationPartialEq.TheImpl.{eq-value}
use Rattle.wordlines.specs.declared.statements.Statement.{Statement}
use Rattle.wordlines.proofs.Declarations.{adds_own, adds_none}
use Rattle.wordlines.proofs.known.Known.with.Goals as goal
use Rattle.wordlines.proofs.known.Known.with.Goals.{in-Some+in_ok-insert, in_default}

pub invariant_of-self : goal.invariant_of-self
invariant_of-self c declaration =
    let before = c.self.inside.statements.items in
    let statement = c.args.statement in
    let known = contains eq-value.it c.self.inside.declared in
    elim c.match-declared_by.branch [
      | in-Some+in_ok-insert w ↦
          let items = c.in_ok-push.ensures.items ∙ ap (λ k. k.statements.items ++ statement ∷ []) w.self-inside-is in
          ap (λ k. contains eq-value.it k.declared declaration) w.self-inside-is
          ∙ adds_own before statement known c.self.invariant w.in-Some.declaration
          (contains eq-value.it w.insert.new.self) (sym c.declared_by.ensures ∙ w.in-Some.is)
          w.in_ok-insert.ensures.updates.0 declaration
          ∙ ap (λ (all : List Statement). list_any (declares declaration) all) (sym items)
      | in_default w ↦
          let items = c.in_ok-push.ensures.items ∙ ap (λ k. k.statements.items ++ statement ∷ []) w.self-inside-is in
          ap (λ k. contains eq-value.it k.declared declaration) w.self-inside-is
          ∙ adds_none before statement known c.self.invariant (sym c.declared_by.ensures ∙ w.in_default.is) declaration
          ∙ ap (λ (all : List Statement). list_any (declares declaration) all) (sym items)
    ]
