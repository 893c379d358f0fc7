use Rattle.simbus.proofs.Stages.{asked_stays}
use Rattle.simbus.proofs.staged.StagedBus.mend.Goals as goal

pub invariant_of-self : goal.invariant_of-self
invariant_of-self g c =
    asked_stays g.S.Scene.statements c.self.inside.bus c.self.invariant c.mend.result c.mend.new.self
    c.mend.ensures.after
