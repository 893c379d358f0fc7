use Rattle.simbus.proofs.Keeping.{missed}
use Rattle.simbus.proofs.equipment.Equipment.miss.Goals as goal

pub returns : goal.returns
returns c = λ setup earlier s m kept. missed setup earlier s _ m kept
