use Rattle.ilverify.specs.Joins.{IsJoin}
use Rattle.ilverify.proofs.JoinRows.{EachUpTo}
use Rattle.ilverify.proofs.joins.joins.Given as goal

abbrev pub invariant-loop-i : goal.invariant-loop-i
invariant-loop-i l = EachUpTo IsJoin l.i l.ones l.others l.made.items
