use Rattle.std.proofs.Common.{◌≡◌, ◌∙◌, ap, sym, inl, inr, pos}
use Rattle.std.specs.Prelude.{Some, slice_get, option_map, string_bytes, ℕ, List}
use Rattle.ilplan.specs.Printed.{printed_name}
use Rattle.ilsource.specs.declared.configuration.TaskDeclaration.{TaskDeclaration}
use Rattle.ilsource.specs.Names.{text_of}
use Rattle.ilsource.specs.SourceTrees.{Tree}
use Rattle.ilscope.proofs.Sound.{not_below}
use Rattle.ilsyms.specs.TaskSteps.{instances_of, task_with}
use Rattle.ilsyms.specs.Tasks.{declared_task, tasks_of}
use Rattle.ilsyms.proofs.PlanLimits.{not_bad}
use Rattle.ilsyms.proofs.PlanTasks.{they_are, task_declared, task_below, planned_at, if_ok}
use Rattle.ilsyms.proofs.plans.plan_declared.Goals as goal

pub task_declared-declared-requires : goal.task_declared-declared-requires
task_declared-declared-requires c =
    task_below c.args.scope.now.tree c.args.number c.args.parts.instances.now c.requires.task c.args.configuration.now
    c.requires.configuration

pub priority_of-priority-requires : goal.priority_of-priority-requires
priority_of-priority-requires c =
    let good = not_bad c.args.scope.now.tree c.args.scope.now.wiring c.requires.named c.args.configuration.now
    c.requires.configuration c.args.number c.task_declared-declared.result c.task_declared-declared.ensures
    in
    record {
      first = not_below c.task_declared-declared.result.priority (pos 0) (λ bad. good (inr (inl bad)));
      last = not_below (pos 65535) c.task_declared-declared.result.priority (λ bad. good (inr (inr bad)));
    }

pub task_with-requires-clause-task : goal.task_with-requires-clause-task
task_with-requires-clause-task c =
    let tree = c.args.scope.now.tree in
    let configuration = c.args.configuration.now in
    let declared = c.task_declared-declared.result in
    let at =
    task_declared tree c.args.number c.args.parts.instances.now c.requires.task configuration c.requires.configuration
    ∙ ap (option_map (λ (d : TaskDeclaration). declared_task tree configuration (c.args.number, d)))
    c.task_declared-declared.ensures
    in
    let are = they_are tree c.args.number c.args.parts.instances.now c.requires.task
    (declared_task tree configuration (c.args.number, declared)) at
    in
    let name : string_bytes c.in_ok-name.name ≡ printed_name (text_of tree.text declared.name) =
    c.in_ok-name.ensures.ok
    ∙ ap printed_name
    (c.text-2.ensures
    ∙ ap (λ (text : List ℕ). text_of text declared.name)
    (c.text.ensures.value ∙ ap (λ (t : Tree). t.text) c.source.ensures.value))
    in (
      c.args.number,
      at ∙ (λ i. Some (task_with (sym name i) (sym c.activation_of-activation.ensures i)
          (sym c.priority_of-priority.ensures i)
          (sym are i))),
    )

pub returns : goal.returns
returns c =
    let tree = c.args.scope.now.tree in
    let configuration = c.args.configuration.now in
    let declared = c.task_declared-declared.result in
    let at =
    task_declared tree c.args.number c.args.parts.instances.now c.requires.task configuration c.requires.configuration
    ∙ ap (option_map (λ (d : TaskDeclaration). declared_task tree configuration (c.args.number, d)))
    c.task_declared-declared.ensures
    in
    let are = they_are tree c.args.number c.args.parts.instances.now c.requires.task
    (declared_task tree configuration (c.args.number, declared)) at
    in
    let name : string_bytes c.in_ok-name.name ≡ printed_name (text_of tree.text declared.name) =
    c.in_ok-name.ensures.ok
    ∙ ap printed_name
    (c.text-2.ensures
    ∙ ap (λ (text : List ℕ). text_of text declared.name)
    (c.text.ensures.value ∙ ap (λ (t : Tree). t.text) c.source.ensures.value))
    in
    let t = task_with (string_bytes c.in_ok-name.name) c.activation_of-activation.result c.priority_of-priority.result
    (instances_of tree c.args.parts.instances.now)
    in
    let here : slice_get (tasks_of tree) c.args.number ≡ Some t =
    at ∙ (λ i. Some (task_with (sym name i) (sym c.activation_of-activation.ensures i)
    (sym c.priority_of-priority.ensures i)
    (sym are i)))
    in
    record {
      task =
          if_ok c.task_with.result _ _ (λ task e. planned_at tree c.args.number t task here e)
          c.task_with.ensures.task;
      limits = c.task_with.ensures.limits;
    }
