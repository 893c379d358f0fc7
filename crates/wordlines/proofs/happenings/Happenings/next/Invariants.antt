use Rattle.std.proofs.Common.{◌≡◌, length}
use Rattle.wordlines.specs.Happenings.{happenings}
use Rattle.wordlines.proofs.happenings.Happenings.next.Given as goal

abbrev pub invariant-loop-self : goal.invariant-loop-self
invariant-loop-self l = happenings l.self-inside.rest.now ≡ l.fn.self

abbrev pub decreases-loop-self : goal.decreases-loop-self
decreases-loop-self l = length l.self-inside.rest.now
