use Rattle.std.proofs.Common.{sym, ◌∙◌, arith}
use Rattle.iltokens.proofs.OverDigits.{goes_on, stops}
use Rattle.iltokens.proofs.digits.digits_from.Goals as goal

pub returns-in-None-clause-exact : goal.returns-in-None-clause-exact
returns-in-None-clause-exact c =
    sym (stops c.args.base c.digits.value c.digits.rest.now c.in-None.ensures.exact) ∙ c.digits.invariant.0

pub digits-preserved : goal.digits-preserved
digits-preserved c = (
  rw c.add_digit-value.ensures
      (goes_on c.args.base c.digits.value c.digits.rest.now c.in-Some.digit c.in-Some.after.now
      c.in-Some.ensures.exact ∙ c.digits.invariant.0),
  omega (arith, c.digits.invariant.1, c.in-Some.ensures.within),
)
