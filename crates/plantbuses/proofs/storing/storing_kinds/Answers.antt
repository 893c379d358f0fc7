use Rattle.std.proofs.Common.{◌≡◌, ◌<◌, ◌+◌, ◌-◌, ℕ, List, Option, length, drop, sym, ap, ◌∙◌, subst}
use Rattle.std.proofs.Common.{arith, rules}
use Rattle.std.specs.Prelude.{option_map, unwrap_or}
use Rattle.gearcmd.specs.declared.requests.TaskKind.{TaskKind}
use Rattle.gearcmd.specs.declared.requests.TaskKind.TheVariants.{Cyclic}
use Rattle.ilplan.specs.Plans.{PlannedTask, task_kind}
use Rattle.plantbuses.proofs.LocatedLevels.{AreKindsOf, kinds_start, kinds_turn, drop_there}
use Rattle.plantbuses.proofs.storing.storing_kinds.Goals as goal

pub loop-task-init : goal.loop-task-init
loop-task-init c =
    let plan = c.args.plan.now in
    kinds_start plan.tasks c.tasks-task.result c.globals.result (length plan.globals) c.in_ok-kinds.kinds.items
    (c.in_ok-kinds.ensures.items_if_clones_equal (search rules)) c.globals.ensures.value
    (let e = c.tasks-task.ensures.value in omega arith)

pub loop-task-preserved : goal.loop-task-preserved
loop-task-preserved c =
    let plan = c.args.plan.now in let n = c.loop-task.task - 1 in let m = length plan.globals in
    let task = c.task.result.now in
    let before = c.loop-task.kinds.items in let after = c.note_task.new.kinds.items in
    let lt : n < length plan.tasks = omega arith in
    let next : c.loop-task.task ≡ n + 1 = omega arith in
    let kind = ap (λ (o : Option TaskKind). unwrap_or o Cyclic)
    (sym (ap (option_map (λ (t : PlannedTask). task_kind t.activation)) c.task.ensures.value) ∙ c.kind.ensures.value) in
    subst (λ (ts : List PlannedTask). AreKindsOf ts m after)
    (sym (drop_there plan.tasks n task lt c.task.ensures.value))
    (kinds_turn task (drop (n + 1) plan.tasks) m c.kind.result before after kind c.note_task.ensures
    (subst (λ (k : ℕ). AreKindsOf (drop k plan.tasks) m before) next c.loop-task.invariant))

pub returns : goal.returns
returns c =
    let plan = c.args.plan.now in let kinds = c.loop-task.kinds.items in
    let zero : c.loop-task.task ≡ 0 = omega arith in
    let done = subst (λ (k : ℕ). AreKindsOf (drop k plan.tasks) (length plan.globals) kinds) zero
    c.loop-task.invariant in
    record { many = done.many; each = done.each }
