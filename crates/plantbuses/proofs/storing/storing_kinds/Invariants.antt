use Rattle.std.proofs.Common.{length, drop}
use Rattle.plantbuses.proofs.LocatedLevels.{AreKindsOf}
use Rattle.plantbuses.proofs.storing.storing_kinds.Given as goal

abbrev pub invariant-loop-task : goal.invariant-loop-task
invariant-loop-task l = AreKindsOf (drop l.task l.plan.tasks) (length l.plan.globals) l.kinds.items
