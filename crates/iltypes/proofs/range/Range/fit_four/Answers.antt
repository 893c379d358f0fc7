use Rattle.std.proofs.Common.{arith, refl, rules, FitsSigned}
use Rattle.std.specs.Int.{w128}
use Rattle.std.proofs.lemmas.Int.{ints, clamps}
use Rattle.iltypes.specs.RangeSteps.{least_of_four, greatest_of_four}
use Rattle.iltypes.proofs.Fitting.{again, four_again, range_is}
use Rattle.iltypes.proofs.range.Range.fit_four.Goals as goal

pub fit-requires : goal.fit-requires
fit-requires c = omega (arith, ints, clamps, c.least_of.ensures, c.greatest_of.ensures)

pub returns : goal.returns
returns c =
    let fl : FitsSigned w128 c.least_of.result = search rules in
    let fg : FitsSigned w128 c.greatest_of.result = search rules in
    let ea = again w128 c.args.a _ c.ranges.a refl in
    let eb = again w128 c.args.b _ c.ranges.b refl in
    let ec = again w128 c.args.c _ c.ranges.c refl in
    let ed = again w128 c.args.d _ c.ranges.d refl in
    range_is _ _ _ _ _
    (again w128 _ _ fl (four_again least_of_four _ _ _ _ _ _ _ _ _ ea eb ec ed c.least_of.ensures))
    (again w128 _ _ fg (four_again greatest_of_four _ _ _ _ _ _ _ _ _ ea eb ec ed c.greatest_of.ensures))
    c.fit.ensures
