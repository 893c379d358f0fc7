use Rattle.livekeep.proofs.ChangedSums.{unsealed}
use Rattle.livekeep.proofs.laws.a_changed_byte_breaks_the_seal.Goals as goal

pub returns : goal.returns
returns c = unsealed
