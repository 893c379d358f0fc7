use Rattle.std.proofs.Common.{◌<◌, ◌++◌, ℕ, List, length, refl, sym, ap, ◌∙◌, arith}
use Rattle.std.proofs.lemmas.Option.{get_or_from_slice_get, slice_get_read}
use Rattle.std.proofs.lemmas.Slice.Zip.{AllZip-long}
use Rattle.ilplan.proofs.Beginnings.{zip_at}
use Rattle.livekeep.specs.KeptStates.{task_entries, tasks_entries}
use Rattle.ilplan.specs.Beginnings.{HasEach}
use Rattle.livekeep.proofs.KeptEntries.{one_more}
use Rattle.livekeep.proofs.keep.kept_values.Goals as goal

pub offset_bounds-tasks-task : goal.offset_bounds-tasks-task
offset_bounds-tasks-task c =
    let long = AllZip-long HasEach c.args.plan.now.tasks c.args.tasks.now c.requires.tasks in omega arith

pub bounds-tasks-task : goal.bounds-tasks-task
bounds-tasks-task c =
    let long = AllZip-long HasEach c.args.plan.now.tasks c.args.tasks.now c.requires.tasks in omega arith

pub keep_task-requires : goal.keep_task-requires
keep_task-requires c =
    let xs = c.args.plan.now.tasks in let ys = c.args.tasks.now in let i = c.loop-task.task in
    let v = c.index-tasks-task.result in
    let long = AllZip-long HasEach xs ys c.requires.tasks in
    let there : i < length ys = omega arith in
    zip_at HasEach xs ys i c.task.result.now v c.requires.tasks c.task.ensures.value
    (slice_get_read ys (length ys) i v refl there c.index-tasks-task.is)

pub loop-task-preserved : goal.loop-task-preserved
loop-task-preserved c =
    let xs = c.args.plan.now.tasks in let ys = c.args.tasks.now in let i = c.loop-task.task in
    let text = c.args.plan.now.text in
    let task = c.task.result.now in let v = c.index-tasks-task.result in
    let long = AllZip-long HasEach xs ys c.requires.tasks in
    let here : i < length xs = omega arith in
    let there : i < length ys = omega arith in
    let added = c.in_ok-keep_task.ensures
    ∙ ap (λ (t : List ℕ). c.loop-task.kept.items ++ task_entries t task v) c.text.ensures.value in
    one_more (task_entries text) (tasks_entries text) (λ x y xs ys. refl) xs ys i task v _ _ _ here there
    (sym (get_or_from_slice_get xs i task task c.task.ensures.value)) c.index-tasks-task.is added
    c.loop-task.invariant
