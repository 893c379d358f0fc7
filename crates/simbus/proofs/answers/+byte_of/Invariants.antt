use Rattle.std.proofs.Common.{length}
use Rattle.simbus.proofs.answers.+byte_of.Given as goal

abbrev pub decreases-byte_of : goal.decreases-byte_of
decreases-byte_of l = length l.bits.now
