use Rattle.std.proofs.Common.{◌≡◌, length}
use Rattle.explaincures.specs.LeavingOut.{after_idle}
use Rattle.explaincures.proofs.leaving_out.after_idle.Given as goal

abbrev pub invariant-front : goal.invariant-front
invariant-front l = after_idle l.rest ≡ after_idle l.bytes

abbrev pub decreases-front : goal.decreases-front
decreases-front l = length l.rest
