use Rattle.std.proofs.Common.{refl}
use Rattle.std.specs.Int.{w64}
use Rattle.iltypes.proofs.Fitting.{again}
use Rattle.ilverify.proofs.Comparisons.{ge_true, ne_true, le_true}
use Rattle.ilverify.proofs.comparison.keep.Goals as goal

pub returns-in-Ge : goal.returns-in-Ge
returns-in-Ge c =
    rw c.in-Ge.is
    (ge_true c.args.range c.from.result _ c.args.limit (again w64 c.args.limit c.args.limit c.ranges.limit refl)
    c.from.ensures)

pub returns-in-Ne : goal.returns-in-Ne
returns-in-Ne c =
    rw c.in-Ne.is
    (ne_true c.args.range c.without_end.result _ c.args.limit (again w64 c.args.limit c.args.limit c.ranges.limit refl)
    c.without_end.ensures)

pub returns-in-Le : goal.returns-in-Le
returns-in-Le c =
    rw c.in-Le.is
    (le_true c.args.range c.up_to.result _ c.args.limit (again w64 c.args.limit c.args.limit c.ranges.limit refl)
    c.up_to.ensures)
