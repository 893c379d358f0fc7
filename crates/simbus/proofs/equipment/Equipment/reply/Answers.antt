use Rattle.std.proofs.Common.{◌∙◌}
use Rattle.simbus.proofs.Keeping.{replied16, replied24}
use Rattle.simbus.proofs.equipment.Equipment.reply.Goals as goal

pub returns-in-Forward16 : goal.returns-in-Forward16
returns-in-Forward16 c = λ setup earlier kept.
    rw c.in-Forward16.is (c.gears_reply.ensures
    ∙ (rw (c.as_slice.ensures.value, c.as_slice-in-Forward16.ensures.value)
    (replied16 setup earlier _ _ c.args.self.now c.fields.ensures kept)))

pub returns-in-Forward24 : goal.returns-in-Forward24
returns-in-Forward24 c = λ setup earlier kept.
    rw c.in-Forward24.is (c.instances_reply.ensures
    ∙ (rw c.as_slice-in-Forward24.ensures.value
    (replied24 setup earlier _ _ c.args.self.now c.fields-in-Forward24.ensures kept)))
