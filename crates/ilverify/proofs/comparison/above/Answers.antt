use Rattle.std.proofs.Common.{arith}
use Rattle.std.proofs.lemmas.Int.{ints, clamps}
use Rattle.ilverify.proofs.Comparisons.{kept_above}
use Rattle.ilverify.proofs.comparison.above.Goals as goal

pub returns : goal.returns
returns c =
    kept_above c.args.range _ c.args.limit (omega (arith, ints)) (omega (arith, ints, clamps, c.max.ensures.value))
    (omega (arith, ints))
