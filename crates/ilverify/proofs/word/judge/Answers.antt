use Rattle.std.proofs.Common.{Bool, subst}
use Rattle.ilverify.specs.Refusals.{ArisesAtJump}
use Rattle.ilverify.specs.WordSteps.{NoneArises}
use Rattle.ilverify.proofs.word.judge.Goals as goal

pub returns-in_ok-check_jump-in-Jump : goal.returns-in_ok-check_jump-in-Jump
returns-in_ok-check_jump-in-Jump c =
    let lawful = subst
    (λ (lawful : Bool). NoneArises (ArisesAtJump c.in-Jump.condition lawful c.args.entry.now.result))
    c.is_target.ensures c.in_ok-check_jump-in-Jump.ensures in
    rw c.in-Jump.is (lawful, c.jump.ensures c.args.code.now)
