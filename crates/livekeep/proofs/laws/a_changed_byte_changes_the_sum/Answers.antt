use Rattle.livekeep.proofs.ChangedSums.{changed}
use Rattle.livekeep.proofs.laws.a_changed_byte_changes_the_sum.Goals as goal

pub returns : goal.returns
returns c = changed
