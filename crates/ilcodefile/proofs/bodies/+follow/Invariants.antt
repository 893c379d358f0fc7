use Rattle.std.proofs.Common.{length}
use Rattle.ilcodefile.proofs.bodies.+follow.Given as goal

abbrev pub decreases-follow : goal.decreases-follow
decreases-follow l = length l.functions.now
