use Rattle.std.proofs.Common.{refl, lit<}
use Rattle.refusalsbus.proofs.events.instance_31_has_events.Goals as goal

pub returns-in-None : goal.returns-in-None
returns-in-None c = absurd (c.in-None.ensures 31744 (lit< tt, lit< tt, lit< tt, refl))
