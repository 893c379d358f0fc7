use Rattle.std.proofs.Common.{◌≡◌, ◌<◌, ◌^◌, None, arith}
use Rattle.wordlines.proofs.SpelledNumbers.{upto_none, upto_some}
use Rattle.wordlines.proofs.numerals.number_of.Goals as goal

pub returns-in_err-number-clause-value : goal.returns-in_err-number-clause-value
returns-in_err-number-clause-value c =
    let none : c.from_residual.result ≡ None = cc in
    let small : c.args.most < 2 ^ 64 = omega arith in
    upto_none c.args.most c.args.digits.now c.from_residual.result none small c.in_err-number.ensures

pub returns-then-number-most-clause-value : goal.returns-then-number-most-clause-value
returns-then-number-most-clause-value c =
    upto_some c.args.most c.args.digits.now c.in_ok-number.number c.in_ok-number.ensures.0.0 c.in_ok-number.ensures.1
    c.if-number-most.true
