use Rattle.std.proofs.Common.{arith}
use Rattle.std.proofs.lemmas.Int.{ints}
use Rattle.iltypes.specs.Arithmetic.{IsDifference}
use Rattle.iltypes.proofs.Limits.{limits_difference}
use Rattle.iltypes.proofs.Fitting.{least_if_any, some_is_least, none_leaves}
use Rattle.iltypes.proofs.range.Range.sub.Goals as goal

pub fit-requires : goal.fit-requires
fit-requires c = omega (arith, ints, c.args.self.ordered, c.args.other.ordered)

pub returns : goal.returns
returns c =
    let set = IsDifference c.args.self c.args.other in
    let h = least_if_any set _ _ _ _ _ (omega (arith, ints)) (omega (arith, ints))
    (limits_difference c.args.self c.args.other) c.fit.ensures in
    record { none = none_leaves set _ h; least = some_is_least set _ h }
