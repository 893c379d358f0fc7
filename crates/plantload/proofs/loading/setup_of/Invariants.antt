use Rattle.std.proofs.Common.{◌≡◌, length}
use Rattle.plantload.proofs.CodeLemmas.{AreFirst}
use Rattle.plantload.proofs.loading.setup_of.Given as goal

abbrev pub invariant-loop-task : goal.invariant-loop-task
invariant-loop-task l =
    (l.plan ≡ l.fn.plan) × (l.task-end ≡ length l.fn.plan.tasks) × AreFirst l.fn.plan l.task l.codes.items
