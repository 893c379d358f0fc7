use Rattle.std.proofs.Common.{◌≡◌, length}
use Rattle.iltext.specs.Terminals.{line_ends}
use Rattle.iltext.proofs.reading.line_ends.Given as goal

abbrev pub invariant-ends : goal.invariant-ends
invariant-ends l = line_ends.read l.rest ≡ line_ends.read l.fn.ts

abbrev pub decreases-ends : goal.decreases-ends
decreases-ends l = length l.rest
