use Rattle.std.proofs.Common.{refl, lit<}
use Rattle.refusalsbus.proofs.events.parts_of_an_event_have_their_places.Goals as goal

pub returns-in-None : goal.returns-in-None
returns-in-None c = absurd (c.in-None.ensures 133123 (lit< tt, lit< tt, lit< tt, refl))
