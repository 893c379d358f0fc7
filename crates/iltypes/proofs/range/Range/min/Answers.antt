use Rattle.std.proofs.Common.{arith}
use Rattle.std.proofs.lemmas.Int.{ints, clamps}
use Rattle.iltypes.specs.Arithmetic.{IsLesser}
use Rattle.iltypes.proofs.Limits.{least_is, limits_lesser}
use Rattle.iltypes.proofs.range.Range.min.Goals as goal

pub invariant_of-result : goal.invariant_of-result
invariant_of-result c =
    record {
      ordered = omega (
        arith,
        ints,
        clamps,
        c.min.ensures.value,
        c.min-2.ensures.value,
        c.args.self.ordered,
        c.args.other.ordered,
      );
    }

pub returns : goal.returns
returns c =
    least_is (IsLesser c.args.self c.args.other) _ _ _ (omega (arith, ints, clamps, c.min.ensures.value))
    (omega (arith, ints, clamps, c.min-2.ensures.value))
    (limits_lesser c.args.self c.args.other)
