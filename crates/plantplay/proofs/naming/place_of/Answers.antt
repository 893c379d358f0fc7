use Rattle.plantplay.proofs.Places.{or_own}
use Rattle.plantplay.proofs.naming.place_of.Goals as goal

pub returns-in-None : goal.returns-in-None
returns-in-None c = or_own c.args.plan.now c.args.name.now c.own_of.result c.in-None.ensures c.own_of.ensures
