use Rattle.simbus.proofs.Stages.{roomy_stays}
use Rattle.simbus.proofs.staged.StagedBus.room.Goals as goal

pub invariant_of-self : goal.invariant_of-self
invariant_of-self g c =
    roomy_stays g.S.Scene.statements c.self.inside.bus c.self.invariant c.room.new.self
    c.room.new.self.log.spare c.room.ensures.same
