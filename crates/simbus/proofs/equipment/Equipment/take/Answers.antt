use Rattle.std.proofs.Common.{◌∙◌}
use Rattle.simbus.proofs.Keeping.{taken16, taken24}
use Rattle.simbus.proofs.equipment.Equipment.take.Goals as goal

pub returns-in-Forward16 : goal.returns-in-Forward16
returns-in-Forward16 c = λ setup earlier s reached kept.
    taken16 setup earlier s _ _ _ _ c.args.self.now _ (reached.0 ∙ c.in-Forward16.is, reached.1) c.fields.ensures
    (rw c.in-Forward16.is at c.is_begun-is_pair.ensures)
    (rw c.in-Forward16.is at c.begun_after-self.ensures) c.take_gear_fields.ensures kept

pub returns-in-Forward24 : goal.returns-in-Forward24
returns-in-Forward24 c = λ setup earlier s reached kept.
    taken24 setup earlier s _ _ _ _ c.args.self.now _
    (reached.0 ∙ c.in-Forward24.is, reached.1) c.fields-in-Forward24.ensures
    (rw c.in-Forward24.is at c.is_begun-is_pair.ensures)
    (rw c.in-Forward24.is at c.begun_after-self.ensures) c.take_device_fields.ensures kept
