use Rattle.std.proofs.Common.{◌∙◌, ap, get_or}
use Rattle.ilmachine.specs.TaskRows.{TaskRow}
use Rattle.ilmachine.proofs.RowSlots.{no_slot, task_there, turn, same_layouts}
use Rattle.ilmachine.proofs.row_writes.write_slots.Goals as goal

pub loop-one-preserved : goal.loop-one-preserved
loop-one-preserved c =
    let l = c.loop-one in
    let slots = c.args.slots.now in
    let one = get_or slots l.one-index no_slot in
    let t = c.index_mut-task.result.now in
    let may = c.requires l.one-index no_slot c.loop-one-test.true in
    let e = task_there l.tasks.items c.args.tasks.now.items c.args.value one t l.invariant.layouts may
    c.index_mut-task.ensures.value in
    record {
      written = λ task. turn slots l.one-index c.args.value l.tasks.items t c.put.new.self task _ c.loop-one-test.true e
          c.put.ensures (l.invariant.written task);
      layouts = same_layouts l.tasks.items one.task t c.put.new.self e (ap (λ (x : TaskRow). x.layout) c.put.ensures)
          ∙ l.invariant.layouts;
    }
