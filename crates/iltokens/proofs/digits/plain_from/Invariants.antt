use Rattle.std.proofs.Common.{◌≡◌, ◌≤◌, length}
use Rattle.iltokens.specs.DigitSteps.{plain_from}
use Rattle.iltokens.proofs.digits.plain_from.Given as goal

abbrev pub invariant-digits : goal.invariant-digits
invariant-digits l = (plain_from l.value l.rest ≡ plain_from l.fn.value l.bytes) × (length l.rest ≤ length l.bytes)

abbrev pub decreases-digits : goal.decreases-digits
decreases-digits l = length l.rest
