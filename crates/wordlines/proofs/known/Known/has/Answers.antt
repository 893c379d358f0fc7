use Rattle.std.proofs.Common.{◌∙◌, List, ap}
use Rattle.std.specs.List.{list_any}
use Rattle.wordlines.specs.Known.{declares}
use Rattle.wordlines.specs.declared.statements.Statement.{Statement}
use Rattle.wordlines.proofs.known.Known.has.Goals as goal

pub returns : goal.returns
returns c =
    c.contains.ensures
    ∙ c.self.invariant c.args.declaration
    ∙ ap (λ (statements : List Statement). list_any (declares c.args.declaration) statements) c.self.view_is
