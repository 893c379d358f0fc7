use Rattle.std.proofs.Common.{◌≡◌, ◌≤◌, length}
use Rattle.iltokens.specs.DigitSteps.{digits_from}
use Rattle.iltokens.proofs.digits.digits_from.Given as goal

abbrev pub invariant-digits : goal.invariant-digits
invariant-digits l =
    (digits_from l.base l.value l.rest ≡ digits_from l.base l.fn.value l.bytes) × (length l.rest ≤ length l.bytes)

abbrev pub decreases-digits : goal.decreases-digits
decreases-digits l = length l.rest
