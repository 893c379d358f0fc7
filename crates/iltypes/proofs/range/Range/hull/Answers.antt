use Rattle.std.proofs.Common.{arith}
use Rattle.std.proofs.lemmas.Int.{ints, clamps}
use Rattle.iltypes.specs.Arithmetic.{IsOfEither}
use Rattle.iltypes.proofs.Limits.{least_is, limits_either}
use Rattle.iltypes.proofs.range.Range.hull.Goals as goal

pub returns : goal.returns
returns c =
    least_is (IsOfEither c.args.self c.args.other) _ _ _ (omega (arith, ints, clamps, c.min.ensures.value))
    (omega (arith, ints, clamps, c.max.ensures.value)) (limits_either c.args.self c.args.other)
