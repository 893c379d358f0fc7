use Rattle.refusalsplant.proofs.ToldOnce.{tick_at}
use Rattle.refusalsplant.proofs.told.controllers_tick_is_told_at_its_place.Goals as goal

pub returns : goal.returns
returns g c =
    tick_at 7 c.args.controller.now.plant c.tick.new.self.plant (g.O.Observer.told c.args.observer.now)
    (g.O.Observer.told c.tick.new.observer) c.tick.result c.requires c.tick.ensures.plant c.tick.ensures.told
