use Rattle.std.proofs.Common.{length}
use Rattle.ilcodefile.proofs.bodies.+rise.Given as goal

abbrev pub decreases-rise : goal.decreases-rise
decreases-rise l = length l.starts.now
