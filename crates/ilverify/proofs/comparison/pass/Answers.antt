use Rattle.std.proofs.Common.{refl}
use Rattle.std.specs.Int.{w64}
use Rattle.iltypes.proofs.Fitting.{again}
use Rattle.ilverify.proofs.Comparisons.{not_held}
use Rattle.ilverify.proofs.comparison.pass.Goals as goal

pub returns-else-outcome : goal.returns-else-outcome
returns-else-outcome c =
    rw c.if-outcome.false
    (not_held c.args.comparison _ c.args.limit c.args.range c.keep-else-outcome.result
    (again w64 c.args.limit c.args.limit c.ranges.limit refl)
    (rw c.opposite.ensures at c.keep-else-outcome.ensures))
