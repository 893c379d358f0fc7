use Rattle.std.proofs.Common.{◌∙◌, ap}
use Rattle.std.specs.Prelude.{bytes_eq}
use Rattle.std.specs.Map.{lookup}
use Rattle.ildeclared.proofs.Kept.{lookup-kept}
use Rattle.ildeclared.proofs.names.Names.get.Goals as goal

pub returns : goal.returns
returns g c =
    c.copied.ensures
    ∙ c.get.ensures.value
    ∙ lookup-kept (λ k. k.items) c.args.key.now c.self.inside.entries.entries
    ∙ ap (λ kept. lookup (bytes_eq c.args.key.now) kept) c.self.view_is
