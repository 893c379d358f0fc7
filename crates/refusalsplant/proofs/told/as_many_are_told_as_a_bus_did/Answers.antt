use Rattle.refusalsplant.proofs.ToldOnce.{as_many}
use Rattle.refusalsplant.proofs.told.as_many_are_told_as_a_bus_did.Goals as goal

pub returns : goal.returns
returns g c =
    as_many c.args.plant.now c.send_next.new.plant (g.O.Observer.told c.args.observer.now)
    (g.O.Observer.told c.send_next.new.observer) c.send_next.result c.requires c.send_next.ensures.told
