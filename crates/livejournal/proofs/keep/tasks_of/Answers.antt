use Rattle.std.proofs.Common.{◌≡◌, ◌∙◌, ap, length, arith}
use Rattle.ilplan.specs.Plans.{Planned}
use Rattle.livejournal.proofs.TaskLists.{one_task_more}
use Rattle.livejournal.proofs.keep.tasks_of.Goals as goal

pub loop-task-preserved : goal.loop-task-preserved
loop-task-preserved c =
    let tasks = c.args.plant.now.plant.plan.tasks in
    let turn = c.loop-task in
    let many : length c.plan.result.now.tasks ≡ length tasks =
    ap (λ (p : Planned). length p.tasks) (c.plan.ensures.value ∙ c.setup.ensures.plan) in
    rw c.in_ok-push.ensures.items
    (one_task_more tasks turn.task _ _ (omega (arith, many)) turn.invariant c.in_ok-task_state.ensures.each)
