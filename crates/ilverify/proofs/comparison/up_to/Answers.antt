use Rattle.std.proofs.Common.{arith}
use Rattle.std.proofs.lemmas.Int.{ints, clamps}
use Rattle.ilverify.proofs.Comparisons.{kept_up_to}
use Rattle.ilverify.proofs.comparison.up_to.Goals as goal

pub returns : goal.returns
returns c =
    kept_up_to c.args.range _ c.args.limit (omega (arith, ints)) (omega (arith, ints)) (omega (
      arith,
      ints,
      clamps,
      c.min.ensures.value,
    ))
