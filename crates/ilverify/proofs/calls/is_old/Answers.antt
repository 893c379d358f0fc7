use Rattle.std.proofs.Common.{◌≤◌, ap, length, arith}
use Rattle.std.proofs.lemmas.Bool.Decides.{nat_tests}
use Rattle.limits.specs.Limits.{few_buses}
use Rattle.ilverify.proofs.Chains.{old_good}
use Rattle.ilverify.proofs.calls.is_old.Goals as goal

pub returns-then-functions-eq0 : goal.returns-then-functions-eq0
returns-then-functions-eq0 c = λ t.
    let code = c.args.code.now in
    let few : code.buses ≤ few_buses = (let b = c.buses.ensures.value in grind (arith, nat_tests)) in
    let all = ap length c.functions.ensures.value in
    old_good code c.functions.ensures.lawful few (omega (arith, all))
