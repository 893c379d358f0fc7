use Rattle.std.proofs.Common.{◌≡◌, ◌∙◌, [], ◌∷◌, List, ap, sym, arith, map, subst, length, take}
use Rattle.std.specs.Prelude.{Some, option_map, slice_get}
use Rattle.std.specs.List.{AllByRecursion}
use Rattle.std.proofs.lemmas.Iterator.Adapters.{YieldsList-from_vec}
use Rattle.std.proofs.lemmas.Iterator.Consumers.{YieldsList-turn, YieldsList-end}
use Rattle.std.proofs.lemmas.List.{length_push, take_all}
use Rattle.ilplan.specs.Plans.{KeepsLimits, PlannedTask}
use Rattle.ilsyms.specs.Resolved.{planned_functions, planned_task}
use Rattle.ilsyms.specs.TaskSteps.{AreInstancesOfTask}
use Rattle.ilsyms.specs.Tasks.{tasks_of}
use Rattle.ilsyms.proofs.Named.{both}
use Rattle.ilsyms.proofs.PlanTasks.{one_planned}
use Rattle.ilsyms.proofs.TaskPartLists.{as_many_parts, instances_at, parts_at}
use Rattle.ilsyms.proofs.plans.plan_tasks.Goals as goal

pub plan_task-requires-clause-task : goal.plan_task-requires-clause-task
plan_task-requires-clause-task c =
    let tree = c.args.scope.now.tree in
    let t = YieldsList-turn
    (YieldsList-from_vec {s = c.into_iter-parts-iterator.result} c.args.tasks.items
    c.into_iter-parts-iterator.ensures.into_iter_gives.0
    (c.into_iter-parts-iterator.ensures.into_iter_gives.1 ∙ c.args.tasks.ok.0))
    c.loop-parts.yielded c.loop-parts.parts-iterator c.loop-parts.yielded_by c.next.result c.next.new.self c.in-Some.parts
    c.in-Some.is c.next.ensures.steps in
    subst (λ number. AreInstancesOfTask tree number c.in-Some.parts.instances.now)
    (sym (c.len-number.ensures ∙ c.loop-parts.planned.ok.0 ∙ c.loop-parts.invariant.many))
    (instances_at tree c.args.tasks.items c.requires.tasks (length c.loop-parts.yielded) c.in-Some.parts t.0 t.1)

pub plan_task-requires-clause-parts : goal.plan_task-requires-clause-parts
plan_task-requires-clause-parts c =
    let t = YieldsList-turn
    (YieldsList-from_vec {s = c.into_iter-parts-iterator.result} c.args.tasks.items
    c.into_iter-parts-iterator.ensures.into_iter_gives.0
    (c.into_iter-parts-iterator.ensures.into_iter_gives.1 ∙ c.args.tasks.ok.0))
    c.loop-parts.yielded c.loop-parts.parts-iterator c.loop-parts.yielded_by c.next.result c.next.new.self c.in-Some.parts
    c.in-Some.is c.next.ensures.steps in
    parts_at c.args.scope.now.tree c.args.tasks.items c.requires.tasks (length c.loop-parts.yielded) c.in-Some.parts
    t.0 t.1

pub loop-parts-preserved : goal.loop-parts-preserved
loop-parts-preserved c =
    let tree = c.args.scope.now.tree in
    let keeps : PlannedTask → Type 0 = KeepsLimits (planned_functions tree) in
    let before = c.loop-parts.planned.items in
    let task = c.in_ok-plan_task.field-0 in
    let pushed = c.in_ok-push.ensures.items in
    let one_more = length_push c.loop-parts.yielded c.in-Some.parts in
    let number = c.len-number.ensures ∙ c.loop-parts.planned.ok.0 ∙ c.loop-parts.invariant.many in
    let planned = subst (λ n. option_map (planned_task tree) (slice_get (tasks_of tree) n) ≡ Some task) number
    c.in_ok-plan_task.ensures.task in
    record {
      many =
          let longer = ap (λ (ts : List PlannedTask). length ts) pushed in
          omega (arith, longer, length_push before task, one_more, c.loop-parts.invariant.many);
      tasks =
          pushed
          ∙ one_planned (planned_task tree) (tasks_of tree) (length c.loop-parts.yielded) before task
          c.loop-parts.invariant.tasks planned
          ∙ ap (λ n. map (planned_task tree) (take n (tasks_of tree))) (sym one_more);
      limits =
          subst (AllByRecursion keeps) (sym pushed)
          (both keeps before (task ∷ []) c.loop-parts.invariant.limits (c.in_ok-plan_task.ensures.limits, tt));
    }

pub returns : goal.returns
returns c =
    let tree = c.args.scope.now.tree in
    let many = as_many_parts tree c.args.tasks.items c.requires.tasks in
    let t = YieldsList-end
    (YieldsList-from_vec {s = c.into_iter-parts-iterator.result} c.args.tasks.items
    c.into_iter-parts-iterator.ensures.into_iter_gives.0
    (c.into_iter-parts-iterator.ensures.into_iter_gives.1 ∙ c.args.tasks.ok.0))
    c.loop-parts.yielded c.loop-parts.parts-iterator c.loop-parts.yielded_by c.next.result c.next.new.self c.in-None.is c.next.ensures.steps in
    record {
      tasks =
          c.loop-parts.invariant.tasks
          ∙ ap (map (planned_task tree))
          (take_all (length c.loop-parts.yielded) (tasks_of tree) (omega (arith, many, t.1)));
      limits = c.loop-parts.invariant.limits;
    }
