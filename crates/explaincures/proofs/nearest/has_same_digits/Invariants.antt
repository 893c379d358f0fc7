use Rattle.std.proofs.Common.{◌≡◌, ◌+◌, length}
use Rattle.explaincures.specs.Nearest.{digits_of}
use Rattle.explaincures.proofs.nearest.has_same_digits.Given as goal

abbrev pub invariant-digits : goal.invariant-digits
invariant-digits l = digits_of l.rest ≡ digits_of l.others → digits_of l.one ≡ digits_of l.other

abbrev pub decreases-digits : goal.decreases-digits
decreases-digits l = length l.rest + length l.others
