use Rattle.plantlive.proofs.Intervals.{IsLeastBefore}
use Rattle.plantlive.proofs.period.period_of.Given as goal

abbrev pub invariant-loop-task : goal.invariant-loop-task
invariant-loop-task l = IsLeastBefore l.plan l.task l.least
