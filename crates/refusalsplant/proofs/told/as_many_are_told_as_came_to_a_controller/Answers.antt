use Rattle.refusalsplant.proofs.ToldOnce.{as_many}
use Rattle.refusalsplant.proofs.told.as_many_are_told_as_came_to_a_controller.Goals as goal

pub returns : goal.returns
returns g c =
    as_many c.args.controller.now.plant c.settle.new.self.plant (g.O.Observer.told c.args.observer.now)
    (g.O.Observer.told c.settle.new.observer) c.settle.result c.requires c.settle.ensures.told
