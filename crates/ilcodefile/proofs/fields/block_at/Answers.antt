use Rattle.std.proofs.Common.{List, ℕ, drop, ap, ◌∙◌}
use Rattle.std.specs.Prelude.{slice_index}
use Rattle.ilcodefile.proofs.fields.block_at.Goals as goal

pub returns-clause-exact : goal.returns-clause-exact
returns-clause-exact c =
    λ kind more e. (
      c.kind_of.ensures.exact kind (ap (λ (bs : List ℕ). slice_index bs 0) e),
      c.split_at.ensures.back ∙ ap (drop 1) e,
    )
