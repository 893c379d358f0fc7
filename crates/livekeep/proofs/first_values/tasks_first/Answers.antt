use Rattle.std.proofs.Common.{List, [], ◌∷◌, ◌++◌, map, take, sym, ap, ◌∙◌}
use Rattle.ilblocks.specs.Stores.{Lasting}
use Rattle.livekeep.specs.KeptPlans.{task_first}
use Rattle.livekeep.proofs.TakenLists.{map_at}
use Rattle.livekeep.proofs.first_values.tasks_first.Goals as goal

pub loop-task-preserved : goal.loop-task-preserved
loop-task-preserved c =
    let plan = c.args.plan.now in let kept = c.args.kept.now.values in let i = c.loop-task.task in
    let first = task_first plan kept in
    let state = c.in_ok-task_first.field-0 in
    c.in_ok-push.ensures.items
    ∙ (ap (λ (l : List Lasting). l ++ state ∷ []) c.loop-task.invariant
    ∙ (ap (λ (s : Lasting). map first (take i plan.tasks) ++ s ∷ []) c.in_ok-task_first.ensures
    ∙ sym (map_at first plan.tasks i c.task.result.now c.task.ensures.value)))
