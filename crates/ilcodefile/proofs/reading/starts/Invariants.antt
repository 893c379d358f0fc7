use Rattle.std.proofs.Common.{◌≡◌, ◌++◌, drop}
use Rattle.ilcodefile.proofs.reading.starts.Given as goal

abbrev pub invariant-loop-number : goal.invariant-loop-number
invariant-loop-number l = l.places.items ++ drop l.number-index l.number-items ≡ l.number-items
