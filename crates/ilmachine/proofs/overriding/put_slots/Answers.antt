use Rattle.std.proofs.Common.{◌≡◌, ◌∙◌, ap, get_or, true, false}
use Rattle.std.specs.Prelude.{slice_set}
use Rattle.std.proofs.lemmas.Bool.{eq-eqb}
use Rattle.ilcells.specs.Banks.{kinds_of}
use Rattle.ilmachine.specs.RowSteps.{row_with}
use Rattle.ilmachine.proofs.RowSlots.{no_slot, neq-eqb}
use Rattle.ilmachine.proofs.RowOverrides.{kinds_kept, may_move, slot_turn}
use Rattle.ilmachine.proofs.overriding.put_slots.Goals as goal
use Rattle.ilmachine.proofs.overriding.put_slots.Goals.{then-one-task, else-one-task}

pub set-requires : goal.set-requires
set-requires c =
    let l = c.loop-one in
    may_move l.row c.args.row.now (get_or c.args.slots.now l.one-index no_slot).slot c.args.value l.invariant.kinds
    (c.requires l.one-index no_slot c.loop-one-test.true c.if-one-task.true)

pub loop-one-preserved : goal.loop-one-preserved
loop-one-preserved c =
    let l = c.loop-one in
    let slots = c.args.slots.now in
    let value = c.args.value in
    let task = c.args.task in
    let row = c.args.row.now in
    let one = get_or slots l.one-index no_slot in
    let all = row_with slots value task row in
    elim c.if-one-task.branch [
      | then-one-task w ↦
          let may = may_move l.row row one.slot value l.invariant.kinds
          (c.requires l.one-index no_slot c.loop-one-test.true w.if-one-task.true) in
          let after : c.if-one-task.row ≡ slice_set l.row one.slot value = w.row-is ∙ w.set.ensures in
          record {
            value = slot_turn slots l.one-index value task l.row c.if-one-task.row all true c.loop-one-test.true
                (eq-eqb one.task task w.if-one-task.true) after l.invariant.value;
            kinds = ap kinds_of after ∙ kinds_kept l.row one.slot value may ∙ l.invariant.kinds;
          }
      | else-one-task w ↦
          record {
            value = slot_turn slots l.one-index value task l.row c.if-one-task.row all false c.loop-one-test.true
                (neq-eqb one.task task w.if-one-task.false) w.row-is l.invariant.value;
            kinds = ap kinds_of w.row-is ∙ l.invariant.kinds;
          }
    ]
