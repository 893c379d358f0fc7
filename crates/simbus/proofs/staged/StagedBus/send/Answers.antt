use Rattle.simbus.proofs.Stages.{sent_stays}
use Rattle.simbus.proofs.staged.StagedBus.send.Goals as goal

pub invariant_of-self : goal.invariant_of-self
invariant_of-self g c =
    sent_stays g.S.Scene.statements c.self.inside.bus c.self.invariant c.args.frame c.args.priority c.send.result
    c.send.new.self c.send.ensures.after
