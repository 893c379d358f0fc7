use Rattle.std.proofs.Common.{◌≡◌, ◌∙◌, sym}
use Rattle.std.specs.Prelude.{Some, slice_get, string_bytes}
use Rattle.ilplan.specs.declared.activation.Activation.TheVariants.{Cyclic}
use Rattle.ilsyms.specs.TaskSteps.{instances_of, task_with}
use Rattle.ilsyms.specs.Tasks.{main_task, tasks_of}
use Rattle.ilsyms.proofs.PlanTasks.{they_are, main_there, planned_at, if_ok}
use Rattle.ilsyms.proofs.plans.plan_main.Goals as goal

pub task_with-requires-clause-task : goal.task_with-requires-clause-task
task_with-requires-clause-task c =
    let tree = c.args.scope.now.tree in
    let at = main_there tree c.args.number c.args.parts.instances.now c.requires.task c.requires.configuration in
    let are = they_are tree c.args.number c.args.parts.instances.now c.requires.task (main_task tree) at in
    (c.args.number, at ∙ (λ i. Some (task_with (sym c.in_ok-name.ensures.ok i) (Cyclic 100) 0 (sym are i))))

pub returns : goal.returns
returns c =
    let tree = c.args.scope.now.tree in
    let at = main_there tree c.args.number c.args.parts.instances.now c.requires.task c.requires.configuration in
    let are = they_are tree c.args.number c.args.parts.instances.now c.requires.task (main_task tree) at in
    let t = task_with (string_bytes c.in_ok-name.name) (Cyclic 100) 0 (instances_of tree c.args.parts.instances.now) in
    let here : slice_get (tasks_of tree) c.args.number ≡ Some t =
    at ∙ (λ i. Some (task_with (sym c.in_ok-name.ensures.ok i) (Cyclic 100) 0 (sym are i)))
    in
    record {
      task =
          if_ok c.task_with.result _ _ (λ task e. planned_at tree c.args.number t task here e)
          c.task_with.ensures.task;
      limits = c.task_with.ensures.limits;
    }
