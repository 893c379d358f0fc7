use Rattle.std.proofs.Common.{length}
use Rattle.foreigncodes.proofs.values.+are_of.Given as goal

abbrev pub decreases-are_of : goal.decreases-are_of
decreases-are_of l = length l.values.now
