use Rattle.std.proofs.Common.{sym, subst}
use Rattle.ilverify.specs.Verdicts.{Accepted}
use Rattle.ilmachine.specs.Images.{IsTaskImage, first_task}
use Rattle.ilmachine.proofs.task.TaskImage.new.Goals as goal

pub invariant_of-result : goal.invariant_of-result
invariant_of-result c =
    subst (λ (v : Accepted).
    IsTaskImage (first_task v c.args.externals.items c.args.values.items c.args.blocks.items))
    (sym c.in_ok-prepared.ensures)
    (record { values = c.requires.values; blocks = c.requires.blocks })
