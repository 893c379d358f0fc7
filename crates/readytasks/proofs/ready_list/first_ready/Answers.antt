use Rattle.std.proofs.Common.{◌≡◌, ◌≢◌, below_more, sym, ap, ◌∙◌, arith}
use Rattle.std.proofs.lemmas.List.{get_or_default}
use Rattle.readytasks.specs.TaskSets.{KeptTask, task_at, no_task}
use Rattle.readytasks.specs.TaskSetSteps.{is_ready}
use Rattle.readytasks.specs.ReadyLists.{is_listed}
use Rattle.readytasks.proofs.ready_list.first_ready.Goals as goal

pub loop-task-preserved : goal.loop-task-preserved
loop-task-preserved c =
    let was = c.loop-task.invariant in let i = c.loop-task.task in
    let states = c.args.states.now in
    let at_t = get_or_default states i no_task _ c.loop-task-test.true ∙ sym c.index-states-task.is in
    let ready = c.relist.new.ready.items in
    record {
      order = c.relist.ensures.order;
      listed = below_more (λ t. is_listed ready t ≡ is_ready (task_at states t) 0) i
          (λ t lt. let ne : t ≢ i = omega arith in c.relist.ensures.others t ne ∙ was.listed t lt)
          (c.relist.ensures.listed ∙ (c.is_ready-is.ensures.value ∙ ap (λ (s : KeptTask). is_ready s 0) (sym at_t)));
      ahead = λ t le. let ne : t ≢ i = omega arith in c.relist.ensures.others t ne ∙ was.ahead t (omega arith);
    }
