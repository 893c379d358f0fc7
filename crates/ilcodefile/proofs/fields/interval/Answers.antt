use Rattle.std.proofs.Common.{ap, sym, ◌∙◌}
use Rattle.std.specs.Int.{w64}
use Rattle.std.proofs.lemmas.Int.{to_z-of_z}
use Rattle.iltypes.specs.declared.value.IlType.TheVariants as types
use Rattle.iltypes.proofs.Equality.{same_limits}
use Rattle.ilcodefile.proofs.fields.interval.Goals as goal

pub returns-clause-exact : goal.returns-clause-exact
returns-clause-exact c range low high =
    let limits = c.in_ok-range.ensures.limits in
    let low_is = limits.0 ∙ to_z-of_z w64 c.args.lo (search) ∙ sym low in
    let high_is = limits.1 ∙ to_z-of_z w64 c.args.hi (search) ∙ sym high in
    ap types.Int (same_limits c.in_ok-range.range range (low_is, high_is))
