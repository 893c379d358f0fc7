use Rattle.std.proofs.Common.{◌+◌, ◌++◌, ◌∷◌, ◌∙◌, [], ap, sym, take}
use Rattle.std.proofs.lemmas.List.{take_more}
use Rattle.std.proofs.lemmas.Option.{get_or_from_slice_get, slice_get_within}
use Rattle.ilnotes.proofs.reads.reads_of_tasks.Goals as goal

pub loop-task-preserved : goal.loop-task-preserved
loop-task-preserved c =
    let tasks = c.args.plan.now.tasks in let i = c.loop-task.task in let t = c.task.result.now in
    let more = take_more tasks i t (slice_get_within tasks i t c.task.ensures.value)
    ∙ ap (λ x. take i tasks ++ x ∷ []) (get_or_from_slice_get tasks i t t c.task.ensures.value) in
    c.in_ok-push.ensures.items ∙ ap (λ xs. xs ++ c.in_ok-of.field-0 ∷ []) c.loop-task.invariant
    ∙ ap (λ x. take i tasks ++ x ∷ []) c.in_ok-of.ensures ∙ sym more
