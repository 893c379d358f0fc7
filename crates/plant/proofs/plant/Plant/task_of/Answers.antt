use Rattle.std.proofs.Common.{◌≡◌, ◌<◌, length, Some, sym, subst}
use Rattle.std.specs.Prelude.{slice_get}
use Rattle.ilplan.specs.Plans.{Planned}
use Rattle.plant.specs.Shown.{Shown}
use Rattle.plant.specs.CommitSteps.{IsOpenScanOf, IsScanOfTask}
use Rattle.plant.proofs.Committing.{open_known, open_committed}
use Rattle.plant.proofs.plant.Plant.task_of.Goals as goal

pub task-limits-requires : goal.task-limits-requires
task-limits-requires c =
    let w = c.args.worker in let scan = c.args.scan.now in let t = c.in_ok-task.task in
    let is = subst (λ (p : Shown). IsOpenScanOf p w scan t) (sym c.self.view_is) c.in_ok-task.ensures.open in
    subst (λ (plan : Planned). t < length plan.tasks) (sym c.plan.ensures.value)
    (open_known _ _ w t scan c.self.invariant is)

pub returns-clause-allowed : goal.returns-clause-allowed
returns-clause-allowed c =
    let w = c.args.worker in let scan = c.args.scan.now in let t = c.in_ok-task.task in
    let task = c.task-limits.result.now in
    let is = subst (λ (p : Shown). IsOpenScanOf p w scan t) (sym c.self.view_is) c.in_ok-task.ensures.open in
    let is_task = subst (λ (plan : Planned). slice_get plan.tasks t ≡ Some task) c.plan.ensures.value
    c.task-limits.ensures.value in
    subst (λ (p : Shown). IsScanOfTask p w scan t) c.self.view_is
    (open_committed _ _ w t task scan c.self.invariant c.plan.ensures.codes is is_task
    c.row-run.ensures.run)
