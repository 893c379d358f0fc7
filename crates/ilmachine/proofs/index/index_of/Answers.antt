use Rattle.std.proofs.Common.{◌≡◌, ◌∙◌, ◌≤◌, ◌<◌, ℕ, [], List, Some, ap, sym, subst, length, arith, Vec, Global}
use Rattle.std.specs.Prelude.{All, slice_get, option_map, ◌==◌, ◌&&◌, ◌||◌}
use Rattle.std.proofs.lemmas.List.{length-map, length-replicate}
use Rattle.std.proofs.lemmas.Option.{slice_get-map}
use Rattle.ilmachine.specs.declared.external.External.{External}
use Rattle.ilmachine.specs.declared.slots.TaskSlot.{TaskSlot}
use Rattle.ilmachine.specs.TaskRows.{TaskRow}
use Rattle.ilmachine.specs.RowSteps.{is_global, has_slot, slots_at, lists_of, layouts_of}
use Rattle.ilmachine.proofs.RowSlots.{read_there}
use Rattle.ilmachine.proofs.RowIndex.{none_at, one_task_more, all_tasks}
use Rattle.ilmachine.proofs.index.index_of.Goals as goal

pub loop-task-init : goal.loop-task-init
loop-task-init c =
    let items = λ (v : Vec TaskSlot Global). v.items in
    let index = c.in_ok-index.index.items in
    let none : List TaskSlot = [] in
    record {
      slots = λ global task slot.
          ap (λ (ls : List (List TaskSlot)). has_slot (slots_at ls global) task slot) c.in_ok-index.ensures
          ∙ ap (λ (ss : List TaskSlot). has_slot ss task slot) (none_at c.args.globals global);
      each = sym (length-map index items) ∙ ap length c.in_ok-index.ensures ∙ length-replicate c.args.globals none;
    }

pub add_task-requires : goal.add_task-requires
add_task-requires c =
    let l = c.loop-task in
    let t = c.index-tasks-task.result in
    let known = subst (λ (u : TaskRow). All (λ (e : External). e.global < c.args.globals) u.layout.externals)
    (sym c.index-tasks-task.is) (c.requires l.task t c.loop-task-test.true) in
    subst (λ (es : List External). All (λ (e : External). e.global < length l.index.items) es)
    (sym c.externals.ensures.value)
    (subst (λ (n : ℕ). All (λ (e : External). e.global < n) t.layout.externals) (sym l.invariant.each) known)

pub loop-task-preserved : goal.loop-task-preserved
loop-task-preserved c =
    let l = c.loop-task in
    let items = λ (v : Vec TaskSlot Global). v.items in
    let tasks = c.args.tasks.now in
    let t = c.index-tasks-task.result in
    let was = lists_of items l.index.items in
    let now = lists_of items c.add_task.new.index.items in
    let there : slice_get (layouts_of tasks) l.task ≡ Some t.layout =
    slice_get-map (λ (u : TaskRow). u.layout) tasks l.task
    ∙ ap (option_map (λ (u : TaskRow). u.layout))
    (read_there tasks l.task t c.loop-task-test.true c.index-tasks-task.is) in
    record {
      slots = λ global task slot.
          one_task_more (layouts_of tasks) l.task task slot global t.layout (has_slot (slots_at was global) task slot)
          (has_slot (slots_at now global) task slot) there (l.invariant.slots global task slot)
          (c.in_ok-add_task.ensures.added global task slot
          ∙ ap (λ (es : List External). has_slot (slots_at was global) task slot
          || (l.task == task && is_global global (slice_get es slot))) c.externals.ensures.value);
      each = c.in_ok-add_task.ensures.each ∙ l.invariant.each;
    }

pub returns-clause-slots : goal.returns-clause-slots
returns-clause-slots c =
    let l = c.loop-task in
    let layouts = layouts_of c.args.tasks.now in
    let long = length-map c.args.tasks.now (λ (u : TaskRow). u.layout) in
    let done : length layouts ≤ l.task = omega arith in
    record {
      slots = λ global task slot. l.invariant.slots global task slot ∙ all_tasks layouts l.task task slot global done;
    }
