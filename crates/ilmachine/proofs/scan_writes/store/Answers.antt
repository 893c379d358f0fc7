use Rattle.std.proofs.Common.{◌≡◌, ◌∙◌, ◌<◌, ◌≤◌, ◌+◌, List, refl, ap, sym, subst, length, get_or, drop, false, arith}
use Rattle.std.proofs.Common.{Vec, Global}
use Rattle.std.specs.Prelude.{slice_get, slice_set}
use Rattle.std.proofs.lemmas.List.{drop_all, length-set}
use Rattle.std.proofs.lemmas.Option.{get_or_from_slice_get}
use Rattle.iltypes.specs.declared.value.Value.{Value}
use Rattle.iltypes.specs.declared.value.Value.TheVariants as values
use Rattle.ilmachine.specs.declared.slots.TaskSlot.{TaskSlot}
use Rattle.ilmachine.specs.declared.slots.StoredSlot.{StoredSlot}
use Rattle.ilmachine.specs.Images.{TaskLayout, stored_slots}
use Rattle.ilmachine.specs.RowSteps.{IsIndex, MaySlotsHave, AreStorable, layouts_of, lists_of, stored_by}
use Rattle.ilmachine.proofs.ImagePlaces.{there}
use Rattle.ilmachine.proofs.StoredSlots.{no_store, one_stored_more}
use Rattle.ilmachine.proofs.RowCommits.{storing, stores_read, task_within}
use Rattle.ilmachine.proofs.scan_writes.store.Goals as goal

pub index-requires : goal.index-requires
index-requires c =
    let first = c.args.tasks.now.items in
    let t = there (slice_get (layouts_of first) c.args.task) (λ (t : TaskLayout). AreStorable (layouts_of first)
    c.args.row.now (length c.args.globals.now.items) (stored_slots t.externals)) c.requires.storable in
    let within = task_within first first c.args.task t.of refl t.is in
    omega (arith, within, c.args.tasks.now.ok.0)

pub index-requires-in-loop-number : goal.index-requires-in-loop-number
index-requires-in-loop-number c =
    let l = c.loop-number in
    let first = c.args.tasks.now.items in
    let t = there (slice_get (layouts_of first) c.args.task) (λ (t : TaskLayout). AreStorable (layouts_of first)
    c.args.row.now (length c.args.globals.now.items) (stored_slots t.externals)) c.requires.storable in
    let within = task_within l.tasks.items first c.args.task t.of l.invariant.layouts t.is in
    omega (arith, within, l.tasks.ok.0)

pub bounds-stores-number : goal.bounds-stores-number
bounds-stores-number c =
    let l = c.loop-number in
    let s = storing c.args.tasks.now.items l.tasks.items c.args.task l.number c.index.result.now
    c.index-in-loop-number.result.now c.stores.result.now c.stores-count.result.now c.args.row.now
    (length c.args.globals.now.items) c.requires.storable l.invariant.layouts c.index-in-loop-number.ensures
    c.stores.ensures.value c.index.ensures c.stores-count.ensures.value c.loop-number-test.true in
    let n = ap length s.stores in
    let h = s.within in
    omega arith

pub get-requires : goal.get-requires
get-requires c =
    let l = c.loop-number in
    let s = storing c.args.tasks.now.items l.tasks.items c.args.task l.number c.index.result.now
    c.index-in-loop-number.result.now c.stores.result.now c.stores-count.result.now c.args.row.now
    (length c.args.globals.now.items) c.requires.storable l.invariant.layouts c.index-in-loop-number.ensures
    c.stores.ensures.value c.index.ensures c.stores-count.ensures.value c.loop-number-test.true in
    subst (λ (ss : List StoredSlot). (get_or ss l.number no_store).slot < length c.args.row.now) (sym s.stores)
    (s.storable.there l.number no_store s.within)

pub give-requires : goal.give-requires
give-requires c =
    let l = c.loop-number in
    let row = c.args.row.now in
    let off = values.Bool false in
    let s = storing c.args.tasks.now.items l.tasks.items c.args.task l.number c.index.result.now
    c.index-in-loop-number.result.now c.stores.result.now c.stores-count.result.now row
    (length c.args.globals.now.items) c.requires.storable l.invariant.layouts c.index-in-loop-number.ensures
    c.stores.ensures.value c.index.ensures c.stores-count.ensures.value c.loop-number-test.true in
    let one = get_or c.stores.result.now l.number no_store in
    let long = sym l.invariant.long in
    let value = get_or_from_slice_get row one.slot c.get.result off c.get.ensures in
    let known = subst (λ (ss : List StoredSlot). (get_or ss l.number no_store).global < length c.args.globals.now.items)
    (sym s.stores) (s.storable.known l.number no_store s.within) in
    let fit = subst (λ (ss : List StoredSlot). MaySlotsHave (layouts_of c.args.tasks.now.items)
    (get_or ss l.number no_store).global (get_or row (get_or ss l.number no_store).slot off)) (sym s.stores)
    (s.storable.fit l.number no_store s.within) in
    record {
      there = omega arith;
      each = c.requires.each ∙ long;
      fits = subst (λ (ls : List TaskLayout). MaySlotsHave ls one.global c.get.result) (sym l.invariant.layouts)
          (subst (λ (v : Value). MaySlotsHave (layouts_of c.args.tasks.now.items) one.global v) value fit);
      ready = l.invariant.ready;
      indexed = subst (λ (ls : List TaskLayout). IsIndex ls
          (lists_of (λ (v : Vec TaskSlot Global). v.items) c.args.index.now)) (sym l.invariant.layouts)
          c.requires.indexed;
    }

pub loop-number-preserved : goal.loop-number-preserved
loop-number-preserved c =
    let l = c.loop-number in
    let row = c.args.row.now in
    let off = values.Bool false in
    let n = l.number in
    let globals = l.globals.items in
    let first = c.args.globals.now.items in
    let after = c.give.new.globals.items in
    let s = storing c.args.tasks.now.items l.tasks.items c.args.task n c.index.result.now
    c.index-in-loop-number.result.now c.stores.result.now c.stores-count.result.now row
    (length first) c.requires.storable l.invariant.layouts c.index-in-loop-number.ensures
    c.stores.ensures.value c.index.ensures c.stores-count.ensures.value c.loop-number-test.true in
    let slots = stored_slots s.of.externals in
    let one = get_or slots n no_store in
    let read = ap (λ (ss : List StoredSlot). slice_get row (get_or ss n no_store).slot) (sym s.stores)
    ∙ c.get.ensures in
    let value = get_or_from_slice_get row one.slot c.get.result off read in
    let given = c.give.ensures.globals
    ∙ ap (λ (ss : List StoredSlot). slice_set globals (get_or ss n no_store).global c.get.result) s.stores
    ∙ ap (slice_set globals one.global) (sym value) in
    let all = stored_by slots row first in
    let more = one_stored_more slots n row globals after all s.within given (l.invariant.stored s.of s.is) in
    record {
      stored = λ t e.
          let q : s.of ≡ t = let i = s.is in cc in
          subst (λ (u : TaskLayout). stored_by (drop (n + 1) (stored_slots u.externals)) row after
          ≡ stored_by (stored_slots u.externals) row first) q more;
      layouts = c.give.ensures.layouts ∙ l.invariant.layouts;
      shown = c.give.ensures.shown ∙ l.invariant.shown;
      ready = c.give.ensures.ready;
      long = ap length given ∙ length-set globals one.global (get_or row one.slot off) ∙ l.invariant.long;
    }

pub returns-clause-globals : goal.returns-clause-globals
returns-clause-globals c = λ t e.
    let l = c.loop-number in
    let first = c.args.tasks.now.items in
    let slots = stored_slots t.externals in
    let count = ap length (c.stores-count.ensures.value
    ∙ stores_read first first c.args.task c.index.result.now t refl e c.index.ensures) in
    let done : length slots ≤ l.number = omega arith in
    sym (ap (λ (ss : List StoredSlot). stored_by ss c.args.row.now l.globals.items) (drop_all l.number slots done))
    ∙ l.invariant.stored t e
