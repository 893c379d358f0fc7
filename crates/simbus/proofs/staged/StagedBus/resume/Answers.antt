use Rattle.simbus.proofs.Stages.{resumed_stays}
use Rattle.simbus.proofs.staged.StagedBus.resume.Goals as goal

pub invariant_of-self : goal.invariant_of-self
invariant_of-self g c =
    resumed_stays g.S.Scene.statements c.self.inside.bus c.self.invariant c.resume.new.self c.resume.ensures.after
