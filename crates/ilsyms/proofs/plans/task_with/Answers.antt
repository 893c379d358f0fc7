use Rattle.std.proofs.Common.{◌≡◌, ◌∙◌, ◌+◌, ap, sym, subst, length, arith, List}
use Rattle.std.proofs.lemmas.List.{take_all}
use Rattle.std.specs.Prelude.{string_bytes}
use Rattle.ilplan.specs.declared.instance.FunctionBlock.{FunctionBlock}
use Rattle.ilplan.specs.Plans.{PlannedTask, KeepsLimits, task_of}
use Rattle.ilsyms.specs.TaskSteps.{instances_of, task_with}
use Rattle.ilsyms.specs.Resolved.{planned_functions, planned_task}
use Rattle.ilsyms.specs.Variables.{slots_of, blocks_of}
use Rattle.ilsyms.proofs.PlanFunctions.{few_functions}
use Rattle.ilsyms.proofs.PlanLimits.{few_slots, few_blocks, names_apart, keeps_limits}
use Rattle.ilsyms.proofs.PlanTasks.{if_ok}
use Rattle.ilsyms.proofs.TaskPartLists.{constants_planned}
use Rattle.ilsyms.proofs.plans.task_with.Goals as goal

pub plan_instances-requires-clause-apart : goal.plan_instances-requires-clause-apart
plan_instances-requires-clause-apart c =
    names_apart c.args.scope.now.tree c.args.scope.now.wiring c.requires.named c.requires.task.0 _ c.requires.task.1

pub plan_instances-requires-clause-slots : goal.plan_instances-requires-clause-slots
plan_instances-requires-clause-slots c =
    let few = few_slots c.args.scope.now.tree c.args.scope.now.wiring c.requires.named c.requires.task.0 _
    c.requires.task.1 in
    c.deref.ensures.value ∙ c.requires.parts.have.slots
    ∙ take_all (4096 + 1) (slots_of c.args.scope.now.tree (instances_of c.args.scope.now.tree c.args.parts.instances.now))
    (omega (arith, few))

pub plan_instances-requires-clause-blocks : goal.plan_instances-requires-clause-blocks
plan_instances-requires-clause-blocks c =
    let few = few_blocks c.args.scope.now.tree c.args.scope.now.wiring c.requires.named c.requires.task.0 _
    c.requires.task.1 in
    c.deref-2.ensures.value ∙ c.requires.parts.have.blocks
    ∙ take_all (256 + 1) (blocks_of (instances_of c.args.scope.now.tree c.args.parts.instances.now)) (omega (arith, few))

pub plan_instances-requires-clause-few_blocks : goal.plan_instances-requires-clause-few_blocks
plan_instances-requires-clause-few_blocks c =
    let few = few_blocks c.args.scope.now.tree c.args.scope.now.wiring c.requires.named c.requires.task.0 _
    c.requires.task.1 in
    let all = take_all (256 + 1) (blocks_of (instances_of c.args.scope.now.tree c.args.parts.instances.now))
    (omega (arith, few)) in
    let same = ap (λ (bs : List FunctionBlock). length bs) (c.deref-2.ensures.value ∙ c.requires.parts.have.blocks ∙ all) in
    omega (arith, few, same)

pub plan_instances-requires-clause-few_functions : goal.plan_instances-requires-clause-few_functions
plan_instances-requires-clause-few_functions c =
    few_functions c.args.scope.now.tree c.args.scope.now.wiring c.requires.named

pub returns : goal.returns
returns c =
    let tree = c.args.scope.now.tree in
    let wiring = c.args.scope.now.wiring in
    let is = instances_of tree c.args.parts.instances.now in
    let many_slots = few_slots tree wiring c.requires.named c.requires.task.0 _ c.requires.task.1 in
    let many_blocks = few_blocks tree wiring c.requires.named c.requires.task.0 _ c.requires.task.1 in
    let slots = c.requires.parts.have.slots ∙ take_all (4096 + 1) (slots_of tree is) (omega (arith, many_slots)) in
    let blocks = c.requires.parts.have.blocks ∙ take_all (256 + 1) (blocks_of is) (omega (arith, many_blocks)) in
    let constants = constants_planned tree c.args.parts is c.requires.parts.have in
    -- the parts are those of the task that is planned
    let parts : task_of (string_bytes c.args.name) c.args.activation c.args.priority c.args.parts.slots.items
    c.args.parts.blocks.items c.args.parts.counted.constants c.in_ok-planned.planned.items
    ≡ planned_task tree (task_with (string_bytes c.args.name) c.args.activation c.args.priority is) =
    λ i. task_of (string_bytes c.args.name) c.args.activation c.args.priority (slots i) (blocks i)
    (constants i) (c.in_ok-planned.ensures.instances i) in
    let keep = keeps_limits tree wiring c.requires.named c.requires.task.0 _ c.requires.task.1
    c.in_ok-planned.ensures.shallow c.in_ok-planned.ensures.sorted in
    record {
      task = if_ok c.new.result _ _ (λ task e. e ∙ parts) c.new.ensures;
      limits =
          if_ok c.new.result _ _
          (λ task e. subst (λ (t : PlannedTask). KeepsLimits (planned_functions tree) t) (sym (e ∙ parts)) keep)
          c.new.ensures;
    }
