use Rattle.std.proofs.Common.{◌≡◌, ◌∙◌, ◌+◌, length, None, replicate, sym, ap, subst, arith, ℕ}
use Rattle.ilverify.specs.PassSteps.{HaveBegun}
use Rattle.ilverify.proofs.PassBegins.{none_begun, found_first}
use Rattle.ilverify.proofs.pass.begin.Goals as goal

pub loop-body-init : goal.loop-body-init
loop-body-init c =
    let code = c.args.code.now in
    let pending : c.in_ok-pending.pending.items ≡ replicate (length code.instructions) None = c.in_ok-pending.ensures
    ∙ ap (λ n. replicate n None) c.len.ensures.value in
    subst (HaveBegun code 0) (sym pending) (none_begun code)

pub returns : goal.returns
returns c =
    let code = c.args.code.now in
    let functions = ap length c.functions.ensures.value in
    let all : c.loop-body.body ≡ length code.functions + 1 = omega (arith, functions) in
    found_first code c.loop-body.pending.items
    (subst (λ (n : ℕ). HaveBegun code n c.loop-body.pending.items) all c.loop-body.invariant)
