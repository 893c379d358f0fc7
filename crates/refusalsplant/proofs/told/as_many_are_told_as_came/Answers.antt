use Rattle.refusalsplant.proofs.ToldOnce.{as_many}
use Rattle.refusalsplant.proofs.told.as_many_are_told_as_came.Goals as goal

pub returns : goal.returns
returns g c =
    as_many c.args.plant.now c.settle.new.plant (g.O.Observer.told c.args.observer.now)
    (g.O.Observer.told c.settle.new.observer) c.settle.result c.requires.told c.settle.ensures.told
