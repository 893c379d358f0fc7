use Rattle.std.proofs.Common.{List, ◌++◌, take, append_assoc, sym, ap, ◌∙◌}
use Rattle.std.specs.Prelude.{flat_map}
use Rattle.livekeep.specs.KeptFiles.{KeptEntry}
use Rattle.livekeep.specs.KeptPlans.{global_taken, task_taken}
use Rattle.livekeep.proofs.TakenLists.{flat_at}
use Rattle.livekeep.proofs.left_out.taken.Goals as goal

pub loop-task-preserved : goal.loop-task-preserved
loop-task-preserved c =
    let plan = c.args.plan.now in let kept = c.args.kept.now.values in let i = c.loop-task.task in
    let task = c.task.result.now in
    let given = task_taken plan kept in
    let globals = flat_map (global_taken plan.text kept) plan.globals in
    let before = flat_map given (take i plan.tasks) in
    c.in_ok-take_task.ensures
    ∙ (ap (λ (l : List KeptEntry). l ++ task_taken plan kept task) c.loop-task.invariant
    ∙ (append_assoc globals before (task_taken plan kept task)
    ∙ ap (λ (l : List KeptEntry). globals ++ l) (sym (flat_at given plan.tasks i task c.task.ensures.value))))
