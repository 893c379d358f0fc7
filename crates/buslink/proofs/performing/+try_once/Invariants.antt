use Rattle.std.proofs.Common.{length}
use Rattle.buslink.proofs.performing.+try_once.Given as goal

abbrev pub decreases-try_once : goal.decreases-try_once
decreases-try_once g l = length l.frames.now
