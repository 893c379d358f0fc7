use Rattle.plantevents.proofs.Taking.{one_take}
use Rattle.plantevents.proofs.laws.one_take_is_legal.Goals as goal

pub returns : goal.returns
returns c = one_take
