use Rattle.std.proofs.Common.{refl, arith}
use Rattle.std.specs.Int.{w64}
use Rattle.std.proofs.lemmas.Int.{ints}
use Rattle.iltypes.proofs.Fitting.{again}
use Rattle.ilverify.proofs.Comparisons.{not_first, not_last}
use Rattle.ilverify.proofs.comparison.without_end.Goals as goal

pub returns-then-limit-range : goal.returns-then-limit-range
returns-then-limit-range c =
    not_first c.args.range c.above.result _ c.args.limit (again w64 c.args.limit c.args.limit c.ranges.limit refl)
    (omega (arith, ints)) c.above.ensures

pub returns-then-limit-range-2 : goal.returns-then-limit-range-2
returns-then-limit-range-2 c =
    not_last c.args.range c.below.result _ c.args.limit (again w64 c.args.limit c.args.limit c.ranges.limit refl)
    (omega (arith, ints)) c.below.ensures
