use Rattle.ilverify.specs.Joins.{AreJoins}
use Rattle.ilverify.proofs.JoinRows.{EachUpTo}
use Rattle.ilverify.proofs.chunks.join_each.Given as goal

abbrev pub invariant-loop-i : goal.invariant-loop-i
invariant-loop-i l = EachUpTo AreJoins l.i l.ones l.others l.made.items
