use Rattle.std.proofs.Common.{◌≡◌, None, length, arith}
use Rattle.wordlines.proofs.SpelledNumbers.{hex_none, hex_some, six_fit}
use Rattle.wordlines.proofs.numerals.hex_of.Goals as goal

pub returns-in_err-number-clause-value : goal.returns-in_err-number-clause-value
returns-in_err-number-clause-value c =
    let none : c.from_residual.result ≡ None = cc in
    let six : length c.args.digits.now ≡ 6 = omega arith in
    hex_none c.args.digits.now c.from_residual.result none six c.in_err-number.ensures

pub overflow_cast-bits : goal.overflow_cast-bits
overflow_cast-bits c =
    let six : length c.args.digits.now ≡ 6 = omega arith in
    omega (arith, six_fit c.args.digits.now c.in_ok-number.ensures.0.0.1 six, c.in_ok-number.ensures.1)

pub returns-clause-value : goal.returns-clause-value
returns-clause-value c =
    let six : length c.args.digits.now ≡ 6 = omega arith in
    hex_some c.args.digits.now c.in_ok-number.number six c.in_ok-number.ensures.0.0 c.in_ok-number.ensures.1

pub returns-clause-bits : goal.returns-clause-bits
returns-clause-bits c =
    let six : length c.args.digits.now ≡ 6 = omega arith in
    omega (arith, six_fit c.args.digits.now c.in_ok-number.ensures.0.0.1 six, c.in_ok-number.ensures.1)
