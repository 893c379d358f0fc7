use Rattle.std.proofs.Common.{ℕ, ◌<◌}
use Rattle.plantplay.specs.Watched.{IsSlotNamed}
use Rattle.plantplay.proofs.naming.own_of.Given as goal

abbrev pub invariant-loop-task : goal.invariant-loop-task
invariant-loop-task l = (k slot : ℕ) → k < l.task → ¬ IsSlotNamed l.plan l.name k slot
