use Rattle.std.proofs.Common.{◌≡◌, ◌≤◌, ◌+◌, ◌*◌, None, get_or, ap, arith}
use Rattle.std.specs.Char.{digit_value}
use Rattle.wordlines.proofs.SpelledNumbers.{past, all_read}
use Rattle.wordlines.proofs.numerals.value_of.Goals as goal

pub returns-in_err-checked_mul : goal.returns-in_err-checked_mul
returns-in_err-checked_mul c =
    let none : c.from_residual-in_err-checked_mul.result ≡ None = cc in
    let same : c.from-base.result ≡ c.args.radix = cc in
    let times = ap (λ x. c.loop-digit.number * x) same in
    let low : 1 ≤ c.args.radix = omega arith in
    let upto : c.loop-digit.number * c.from-base.result ≤ c.loop-digit.number * c.args.radix + digit_value
    (get_or c.args.digits.now c.loop-digit.digit-index 0) = omega (arith, times) in
    past c.args.radix c.args.digits.now c.loop-digit.digit-index c.loop-digit.number
    (c.loop-digit.number * c.from-base.result) c.from_residual-in_err-checked_mul.result none low c.loop-digit-test.true
    c.loop-digit.invariant.value upto c.in_err-checked_mul.ensures

pub returns-in_err-number : goal.returns-in_err-number
returns-in_err-number c =
    let none : c.from_residual-in_err-number.result ≡ None = cc in
    let same : c.from-base.result ≡ c.args.radix = cc in
    let times = ap (λ x. c.loop-digit.number * x) same in
    let low : 1 ≤ c.args.radix = omega arith in
    let product : c.in_ok-checked_mul.field-0 ≡ c.loop-digit.number * c.from-base.result =
    c.in_ok-checked_mul.ensures.1 in
    let letter : c.from-letter.result ≡ get_or c.args.digits.now c.loop-digit.digit-index 0 = cc in
    let digit = ap digit_value letter in
    let worth : c.in_ok-worth.worth ≡ digit_value c.from-letter.result = c.in_ok-worth.ensures.value.1 in
    let wide : c.from.result ≡ c.in_ok-worth.worth = cc in
    let upto : c.in_ok-checked_mul.field-0 + c.from.result ≤ c.loop-digit.number * c.args.radix + digit_value
    (get_or c.args.digits.now c.loop-digit.digit-index 0) = omega (arith, times, product, digit, worth, wide) in
    past c.args.radix c.args.digits.now c.loop-digit.digit-index c.loop-digit.number
    (c.in_ok-checked_mul.field-0 + c.from.result) c.from_residual-in_err-number.result none low c.loop-digit-test.true
    c.loop-digit.invariant.value upto c.in_err-number.ensures

pub returns : goal.returns
returns c =
    let inv = c.loop-digit.invariant in
    all_read c.args.radix c.args.digits.now c.loop-digit.digit-index c.loop-digit.number inv.some
    c.loop-digit-test.false inv.fits inv.digits inv.value
