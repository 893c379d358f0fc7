use Rattle.std.proofs.Common.{rules, FitsSigned, refl, pos}
use Rattle.std.specs.Prelude.{int_div}
use Rattle.std.specs.Int.{w64, w128}
use Rattle.iltypes.specs.Ranges.{Holds}
use Rattle.iltypes.specs.Arithmetic.{IsQuotient}
use Rattle.iltypes.specs.RangeSteps.{least_of_four, greatest_of_four}
use Rattle.iltypes.proofs.Quotients.{limits_quotient}
use Rattle.iltypes.proofs.Fitting.{least_if_any, some_is_least, none_at_zero, two_again, four_again}
use Rattle.iltypes.proofs.range.Range.div.Goals as goal

pub returns : goal.returns
returns c =
    let zero = Holds c.args.other (pos 0) in
    let set = IsQuotient c.args.self c.args.other in
    let n : ¬ zero = λ h. let t = c.contains.ensures.1 h in let f = c.if-contains.false in absurd (cc) in
    let al : FitsSigned w64 c.args.self.lo = search rules in
    let ah : FitsSigned w64 c.args.self.hi = search rules in
    let bl : FitsSigned w64 c.args.other.lo = search rules in
    let bh : FitsSigned w64 c.args.other.hi = search rules in
    let f1 : FitsSigned w128 c.quotient.result = search rules in
    let f2 : FitsSigned w128 c.quotient-2.result = search rules in
    let f3 : FitsSigned w128 c.quotient-3.result = search rules in
    let f4 : FitsSigned w128 c.quotient-4.result = search rules in
    let e1 = two_again int_div _ _ _ al bl f1 c.quotient.ensures in
    let e2 = two_again int_div _ _ _ al bh f2 c.quotient-2.ensures in
    let e3 = two_again int_div _ _ _ ah bl f3 c.quotient-3.ensures in
    let e4 = two_again int_div _ _ _ ah bh f4 c.quotient-4.ensures in
    let low = four_again least_of_four _ _ _ _ _ _ _ _ _ e1 e2 e3 e4 refl in
    let high = four_again greatest_of_four _ _ _ _ _ _ _ _ _ e1 e2 e3 e4 refl in
    let h = least_if_any set _ _ _ _ _ low high (limits_quotient c.args.self c.args.other n) c.fit_four.ensures in
    record { none = none_at_zero zero set _ n h; least = some_is_least set _ h }
