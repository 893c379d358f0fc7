use Rattle.std.proofs.Common.{rules, FitsSigned, ◌*ℤ◌, refl}
use Rattle.std.specs.Int.{w64, w128}
use Rattle.iltypes.specs.Arithmetic.{IsProduct}
use Rattle.iltypes.specs.RangeSteps.{least_of_four, greatest_of_four}
use Rattle.iltypes.proofs.Corners.{limits_product}
use Rattle.iltypes.proofs.Fitting.{least_if_any, some_is_least, none_leaves, two_again, four_again}
use Rattle.iltypes.proofs.range.Range.mul.Goals as goal

pub returns : goal.returns
returns c =
    let set = IsProduct c.args.self c.args.other in
    let al : FitsSigned w64 c.args.self.lo = search rules in
    let ah : FitsSigned w64 c.args.self.hi = search rules in
    let bl : FitsSigned w64 c.args.other.lo = search rules in
    let bh : FitsSigned w64 c.args.other.hi = search rules in
    let f1 : FitsSigned w128 c.product.result = search rules in
    let f2 : FitsSigned w128 c.product-2.result = search rules in
    let f3 : FitsSigned w128 c.product-3.result = search rules in
    let f4 : FitsSigned w128 c.product-4.result = search rules in
    let e1 = two_again (λ x y. x *ℤ y) _ _ _ al bl f1 c.product.ensures in
    let e2 = two_again (λ x y. x *ℤ y) _ _ _ al bh f2 c.product-2.ensures in
    let e3 = two_again (λ x y. x *ℤ y) _ _ _ ah bl f3 c.product-3.ensures in
    let e4 = two_again (λ x y. x *ℤ y) _ _ _ ah bh f4 c.product-4.ensures in
    let low = four_again least_of_four _ _ _ _ _ _ _ _ _ e1 e2 e3 e4 refl in
    let high = four_again greatest_of_four _ _ _ _ _ _ _ _ _ e1 e2 e3 e4 refl in
    let h = least_if_any set _ _ _ _ _ low high (limits_product c.args.self c.args.other) c.fit_four.ensures in
    record { none = none_leaves set _ h; least = some_is_least set _ h }
