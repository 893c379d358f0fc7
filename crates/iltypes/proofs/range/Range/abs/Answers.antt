use Rattle.std.proofs.Common.{pos, neg_ℤ, FitsSigned, rules, arith}
use Rattle.std.specs.Int.{w64, w128, int_max}
use Rattle.std.proofs.lemmas.Int.{ints, clamps}
use Rattle.iltypes.specs.Arithmetic.{IsMagnitude}
use Rattle.iltypes.proofs.Magnitudes.{limits_magnitude}
use Rattle.iltypes.proofs.Fitting.{least_if_any, some_is_least, none_leaves, two_again}
use Rattle.iltypes.proofs.range.Range.abs.Goals as goal

pub fit-requires : goal.fit-requires
fit-requires c = omega (arith, ints, clamps, c.nearest.ensures, c.furthest.ensures, c.args.self.ordered)

pub returns : goal.returns
returns c =
    let set = IsMagnitude c.args.self in
    let l : FitsSigned w64 c.args.self.lo = search rules in
    let h : FitsSigned w64 c.args.self.hi = search rules in
    let n : FitsSigned w128 c.nearest.result = search rules in
    let f : FitsSigned w128 c.furthest.result = search rules in
    let near = two_again (λ x y. int_max (int_max x (pos 0)) (neg_ℤ y)) _ _ _ l h n c.nearest.ensures in
    let far = two_again (λ x y. int_max y (neg_ℤ x)) _ _ _ l h f c.furthest.ensures in
    let least = least_if_any set _ _ _ _ _ near far (limits_magnitude c.args.self) c.fit.ensures in
    record { none = none_leaves set _ least; least = some_is_least set _ least }
