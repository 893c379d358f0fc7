use Rattle.livekeep.proofs.ComesBack.{entries_back}
use Rattle.livekeep.proofs.laws.entries_come_back.Goals as goal

pub returns : goal.returns
returns c = entries_back
