use Rattle.std.proofs.Common.{◌∙◌}
use Rattle.simbus.proofs.Keeping.{found_gear}
use Rattle.simbus.proofs.equipment.Equipment.gear.Goals as goal

pub returns : goal.returns
returns c =
    λ setup earlier kept. c.gear_in.ensures
    ∙ (rw c.as_slice.ensures.value (found_gear setup earlier c.args.self.now c.args.address kept))
