use Rattle.std.proofs.Common.{◌∙◌, refl, w64}
use Rattle.iltypes.proofs.Fitting.{again}
use Rattle.iltypes.specs.Functions.{least_of, greatest_of}
use Rattle.ildeclared.specs.DataTypes.{whole_numbers}
use Rattle.ildeclared.proofs.Subranges.{subrange_within, subrange_outside}
use Rattle.ildeclared.proofs.types.subrange.Goals as goal

pub returns-then-within : goal.returns-then-within
returns-then-within c =
    let base = c.args.base in
    let low = again w64 c.args.low c.args.low c.ranges.low refl in
    let high = again w64 c.args.high c.args.high c.ranges.high refl in
    let limits = c.in_ok-range.ensures.limits in
    subrange_within c.in_ok-range.range c.range.result (least_of base) (greatest_of base) c.args.low c.args.high
    c.range.ensures.low c.range.ensures.high
    (limits.0 ∙ low) (limits.1 ∙ high) _ c.whole_numbers.result (c.within.ensures.0 c.if-within.true) low
    c.whole_numbers.ensures

pub returns-else-within : goal.returns-else-within
returns-else-within c =
    let base = c.args.base in
    let low = again w64 c.args.low c.args.low c.ranges.low refl in
    let high = again w64 c.args.high c.args.high c.ranges.high refl in
    let limits = c.in_ok-range.ensures.limits in
    subrange_outside c.in_ok-range.range c.range.result (least_of base) (greatest_of base) c.args.low c.args.high
    c.range.ensures.low c.range.ensures.high
    (limits.0 ∙ low) (limits.1 ∙ high) (whole_numbers c.args.low c.args.high c.args.low)
    (λ h. let is = c.within.ensures.1 h in let not = c.if-within.false in cc)
