use Rattle.plantevents.proofs.Waiting.{waiting_law}
use Rattle.plantevents.proofs.laws.what_waits.Goals as goal

pub returns : goal.returns
returns c p b class h legal = (waiting_law p b class h legal).1
