use Rattle.std.proofs.Common.{arith}
use Rattle.std.proofs.lemmas.Int.{ints}
use Rattle.iltypes.specs.Arithmetic.{IsSum}
use Rattle.iltypes.proofs.Limits.{limits_sum}
use Rattle.iltypes.proofs.Fitting.{least_if_any, some_is_least, none_leaves}
use Rattle.iltypes.proofs.range.Range.add.Goals as goal

pub returns : goal.returns
returns c =
    let set = IsSum c.args.self c.args.other in
    let h = least_if_any set _ _ _ _ _ (omega (arith, ints)) (omega (arith, ints)) (limits_sum c.args.self c.args.other)
    c.fit.ensures in
    record { none = none_leaves set _ h; least = some_is_least set _ h }
