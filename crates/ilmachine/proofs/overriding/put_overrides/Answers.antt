use Rattle.std.proofs.Common.{◌≡◌, ◌∙◌, List, sym, ap, subst, get_or, Vec, Global}
use Rattle.std.specs.Prelude.{All}
use Rattle.ilmachine.specs.declared.slots.TaskSlot.{TaskSlot}
use Rattle.ilmachine.specs.RowSteps.{MaySet, row_with, row_under, lists_of}
use Rattle.ilmachine.proofs.RowIndex.{list_read}
use Rattle.ilmachine.proofs.RowOverrides.{no_override, may_move, override_turn}
use Rattle.ilmachine.proofs.overriding.put_overrides.Goals as goal

pub put_slots-requires : goal.put_slots-requires
put_slots-requires c = λ k d within same.
    let l = c.loop-given in
    let items = λ (v : Vec TaskSlot Global). v.items in
    let given = get_or c.args.overrides.now l.given-index no_override in
    let known = c.requires.known l.given-index no_override c.loop-given-test.true in
    let slots = c.deref.ensures.value
    ∙ list_read items c.args.index.now given.global c.index-index-given.result known c.index-index-given.is in
    let may = subst (λ (ss : List TaskSlot). All (λ (one : TaskSlot). one.task ≡ c.args.task
    → MaySet c.args.row.now one.slot given.value) ss) (sym slots)
    (c.requires.kinds l.given-index no_override c.loop-given-test.true) in
    may_move l.row c.args.row.now (get_or c.deref.result.now k d).slot given.value l.invariant.kinds
    (may k d within same)

pub loop-given-preserved : goal.loop-given-preserved
loop-given-preserved c =
    let l = c.loop-given in
    let items = λ (v : Vec TaskSlot Global). v.items in
    let index = lists_of items c.args.index.now in
    let task = c.args.task in
    let overrides = c.args.overrides.now in
    let given = get_or overrides l.given-index no_override in
    let known = c.requires.known l.given-index no_override c.loop-given-test.true in
    let slots = c.deref.ensures.value
    ∙ list_read items c.args.index.now given.global c.index-index-given.result known c.index-index-given.is in
    record {
      value = override_turn index task overrides l.given-index l.row c.put_slots.new.row
          (row_under index task overrides c.args.row.now) c.loop-given-test.true
          (c.put_slots.ensures.value ∙ ap (λ (ss : List TaskSlot). row_with ss given.value task l.row) slots)
          l.invariant.value;
      kinds = c.put_slots.ensures.kinds ∙ l.invariant.kinds;
    }
