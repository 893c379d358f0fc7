use Rattle.std.proofs.Common.{◌≡◌, length, subst, arith}
use Rattle.ilverify.specs.Certificates.{IsClosest}
use Rattle.ilverify.proofs.PassForward.{certified}
use Rattle.ilverify.proofs.pass.judge.Goals as goal

pub returns : goal.returns
returns c =
    let code = c.args.code.now in
    let f = c.loop-place.invariant in
    let end : c.loop-place.place ≡ length code.instructions = omega
    (arith, c.len-place-end.ensures.value) in
    certified code f.certificate (subst (IsClosest code f.certificate) end f.closest)
