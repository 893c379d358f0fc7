use Rattle.ilmachine.proofs.WholeRows.{IsResetTo}
use Rattle.ilmachine.proofs.whole_row.reset.Given as goal

abbrev pub invariant-loop-slot : goal.invariant-loop-slot
invariant-loop-slot l = IsResetTo l.from l.slot l.initial.row l.types l.row
