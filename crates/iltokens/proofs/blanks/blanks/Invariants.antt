use Rattle.std.proofs.Common.{◌≡◌, ◌≤◌, length}
use Rattle.iltokens.specs.BlankSteps.{blanks}
use Rattle.iltokens.proofs.blanks.blanks.Given as goal

abbrev pub invariant-blanks : goal.invariant-blanks
invariant-blanks l = (blanks l.rest ≡ blanks l.bytes) × (length l.rest ≤ length l.bytes)

abbrev pub decreases-blanks : goal.decreases-blanks
decreases-blanks l = length l.rest
