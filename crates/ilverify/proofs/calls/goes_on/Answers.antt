use Rattle.std.proofs.Common.{length, inl, inr, arith}
use Rattle.std.proofs.lemmas.Bool.{cases_lt}
use Rattle.ilverify.proofs.Chains.{outside_is}
use Rattle.ilverify.proofs.calls.goes_on.Goals as goal

pub returns-in-None : goal.returns-in-None
returns-in-None c =
    let code = c.args.code.now in
    let lawful = c.functions-functions.ensures.lawful in
    let long = c.requires.long in
    elim (cases_lt c.args.function (length code.functions)) [
      | inl lt ↦ let none = c.in-None.ensures.lookup.2 (omega (arith, long, lt)) in absurd cc
      | inr ge ↦ outside_is code lawful c.args.calls c.args.function ge
    ]
