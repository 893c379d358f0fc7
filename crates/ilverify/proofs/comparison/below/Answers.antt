use Rattle.std.proofs.Common.{arith}
use Rattle.std.proofs.lemmas.Int.{ints, clamps}
use Rattle.ilverify.proofs.Comparisons.{kept_below}
use Rattle.ilverify.proofs.comparison.below.Goals as goal

pub returns : goal.returns
returns c =
    kept_below c.args.range _ c.args.limit (omega (arith, ints)) (omega (arith, ints)) (omega (
      arith,
      ints,
      clamps,
      c.min.ensures.value,
    ))
