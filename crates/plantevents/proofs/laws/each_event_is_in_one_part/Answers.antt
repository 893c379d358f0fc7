use Rattle.plantevents.proofs.Parting.{has_part, part_has}
use Rattle.plantevents.proofs.laws.each_event_is_in_one_part.Goals as goal

pub returns : goal.returns
returns c role h x = (has_part role h x, part_has role h x)
