use Rattle.std.proofs.Common.{arith}
use Rattle.std.proofs.lemmas.Int.{ints, clamps}
use Rattle.ilverify.proofs.Comparisons.{kept_from}
use Rattle.ilverify.proofs.comparison.from.Goals as goal

pub returns : goal.returns
returns c =
    kept_from c.args.range _ c.args.limit (omega (arith, ints)) (omega (arith, ints, clamps, c.max.ensures.value))
    (omega (arith, ints))
