use Rattle.simbus.proofs.Stages.{heard_stays}
use Rattle.simbus.proofs.staged.StagedBus.hear.Goals as goal

pub invariant_of-self : goal.invariant_of-self
invariant_of-self g c =
    heard_stays g.S.Scene.statements c.self.inside.bus c.self.invariant c.hear.result c.hear.new.self
    c.hear.ensures.after
