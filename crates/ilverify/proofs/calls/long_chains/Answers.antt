use Rattle.std.proofs.Common.{◌≡◌, ℕ, arith, subst}
use Rattle.ilverify.specs.CallSteps.{AreChains}
use Rattle.ilverify.proofs.calls.long_chains.Goals as goal

pub returns : goal.returns
returns c =
    let e : c.loop-calls.calls ≡ 8 = omega arith in
    subst (λ (n : ℕ). AreChains c.args.code.now n c.loop-calls.chains.items) e c.loop-calls.invariant
