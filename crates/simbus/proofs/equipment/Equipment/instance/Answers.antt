use Rattle.std.proofs.Common.{◌∙◌}
use Rattle.simbus.proofs.Keeping.{found_instance}
use Rattle.simbus.proofs.equipment.Equipment.instance.Goals as goal

pub returns : goal.returns
returns c =
    λ setup earlier kept. c.instance_in.ensures
    ∙ (rw c.as_slice.ensures.value (found_instance setup earlier c.args.self.now c.args.address c.args.number kept))
