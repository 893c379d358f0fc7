use Rattle.refusalsplant.proofs.Refusing.{has_no_place}
use Rattle.refusalsplant.proofs.coming_up.full_history_takes_no_up.Goals as goal

pub returns-in-Ok : goal.returns-in-Ok
returns-in-Ok c = absurd (has_no_place c.args.plant.now c.requires c.in-Ok.ensures.refused)
