use Rattle.std.proofs.Common.{arith}
use Rattle.std.proofs.lemmas.Int.{ints, clamps}
use Rattle.iltypes.specs.Arithmetic.{IsGreater}
use Rattle.iltypes.proofs.Limits.{least_is, limits_greater}
use Rattle.iltypes.proofs.range.Range.max.Goals as goal

pub invariant_of-result : goal.invariant_of-result
invariant_of-result c =
    record {
      ordered = omega (
        arith,
        ints,
        clamps,
        c.max.ensures.value,
        c.max-2.ensures.value,
        c.args.self.ordered,
        c.args.other.ordered,
      );
    }

pub returns : goal.returns
returns c =
    least_is (IsGreater c.args.self c.args.other) _ _ _ (omega (arith, ints, clamps, c.max.ensures.value))
    (omega (arith, ints, clamps, c.max-2.ensures.value))
    (limits_greater c.args.self c.args.other)
