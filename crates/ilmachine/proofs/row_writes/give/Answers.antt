use Rattle.std.proofs.Common.{◌∙◌, refl, arith, Vec, Global}
use Rattle.ilmachine.specs.declared.slots.TaskSlot.{TaskSlot}
use Rattle.ilmachine.specs.RowSteps.{layouts_of, lists_of}
use Rattle.ilmachine.proofs.RowIndex.{list_read}
use Rattle.ilmachine.proofs.RowReady.{slots_of, each_may_have, all_ready, all_shown}
use Rattle.ilmachine.proofs.row_writes.give.Goals as goal

pub write_slots-requires : goal.write_slots-requires
write_slots-requires c =
    let index = c.args.index.now in
    let items = λ (v : Vec TaskSlot Global). v.items in
    let layouts = layouts_of c.args.tasks.now.items in
    let within = c.requires.each in
    let there = c.requires.there in
    let slots = c.deref.ensures.value
    ∙ list_read items index c.args.global c.index-index-global.result (omega arith) c.index-index-global.is in
    each_may_have layouts c.deref.result.now c.args.global c.args.value
    (slots_of layouts (lists_of items index) c.deref.result.now c.args.global c.requires.indexed slots) c.requires.fits

pub returns : goal.returns
returns c =
    let index = c.args.index.now in
    let items = λ (v : Vec TaskSlot Global). v.items in
    let tasks = c.args.tasks.now.items in
    let after = c.write_slots.new.tasks.items in
    let within = c.requires.each in
    let there = c.requires.there in
    let slots = c.deref.ensures.value
    ∙ list_read items index c.args.global c.index-index-global.result (omega arith) c.index-index-global.is in
    let s = slots_of (layouts_of tasks) (lists_of items index) c.deref.result.now c.args.global c.requires.indexed
    slots in
    record {
      globals = refl;
      layouts = c.write_slots.ensures.layouts;
      shown = all_shown tasks after c.deref.result.now c.args.global c.args.value s c.write_slots.ensures.written;
      ready = all_ready c.args.globals.now.items _ tasks after c.deref.result.now c.args.global c.args.value s
          c.requires.there refl c.write_slots.ensures.written c.requires.ready;
    }
