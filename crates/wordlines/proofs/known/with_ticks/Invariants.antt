use Rattle.std.proofs.Common.{◌≡◌, ◌+◌, ◌++◌}
use Rattle.wordlines.specs.Entries.{first_ticks}
use Rattle.wordlines.proofs.known.with_ticks.Given as goal

-- one tick more than the place of the last one stands behind the statements
abbrev pub invariant-loop-place : goal.invariant-loop-place
invariant-loop-place l = l.known ≡ l.fn.known ++ first_ticks l.row (l.place + 1)
