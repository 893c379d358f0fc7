use Rattle.std.proofs.Common.{◌≡◌, ◌≤◌, length}
use Rattle.iltokens.specs.WordSteps.{after_name}
use Rattle.iltokens.proofs.spelling.after_name.Given as goal

abbrev pub invariant-name : goal.invariant-name
invariant-name l = (after_name l.rest ≡ after_name l.bytes) × (length l.rest ≤ length l.bytes)

abbrev pub decreases-name : goal.decreases-name
decreases-name l = length l.rest
