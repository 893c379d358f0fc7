use Rattle.std.proofs.Common.{◌∙◌, ◌<◌, ◌≤◌, ◌++◌, ◌∷◌, [], List, ap, length, get_or, arith, Vec, Global}
use Rattle.std.specs.Prelude.{slice_get, slice_set, ◌==◌, ◌&&◌, ◌||◌}
use Rattle.std.proofs.lemmas.List.{length-map, length-set, map-set, take_all}
use Rattle.std.proofs.lemmas.Option.{slice_get-get_or}
use Rattle.ilmachine.specs.declared.external.External.{External}
use Rattle.ilmachine.specs.declared.slots.TaskSlot.{TaskSlot}
use Rattle.ilmachine.specs.RowSteps.{is_global, has_slot, slots_at, lists_of}
use Rattle.ilmachine.proofs.RowIndex.{no_external, one_more, list_read}
use Rattle.ilmachine.proofs.index.add_task.Goals as goal

pub loop-slot-preserved : goal.loop-slot-preserved
loop-slot-preserved c =
    let l = c.loop-slot in
    let items = λ (v : Vec TaskSlot Global). v.items in
    let externals = c.args.externals.now in
    let x = get_or externals l.slot no_external in
    let index = lists_of items l.index.items in
    let first = lists_of items c.args.index.now.items in
    let read = c.index_mut-slots.result.now in
    let new = c.push.new.self in
    let one : TaskSlot = record { task = c.args.task; slot = l.slot } in
    let known = c.requires l.slot no_external c.loop-slot-test.true in
    let each = l.invariant.each in
    let long = length-map l.index.items items in
    let within : x.global < length l.index.items = omega arith in
    let there : x.global < length index = omega arith in
    let pushed = c.in_ok-push.ensures.items
    ∙ ap (λ (ss : List TaskSlot). ss ++ one ∷ [])
    (list_read items l.index.items x.global read within c.index_mut-slots.ensures.value) in
    let after = map-set items l.index.items x.global new ∙ ap (slice_set index x.global) pushed in
    record {
      added = λ global other slot.
          ap (λ (ls : List (List TaskSlot)). has_slot (slots_at ls global) other slot) after
          ∙ one_more index first c.args.task l.slot externals x global other slot
          (slice_get-get_or externals l.slot no_external c.loop-slot-test.true) there
          (l.invariant.added global other slot);
      each = length-set l.index.items x.global new ∙ each;
    }

pub returns-clause-added : goal.returns-clause-added
returns-clause-added c = λ global other slot.
    let l = c.loop-slot in
    let items = λ (v : Vec TaskSlot Global). v.items in
    let first = lists_of items c.args.index.now.items in
    let done : length c.args.externals.now ≤ l.slot = omega arith in
    l.invariant.added global other slot
    ∙ ap (λ (es : List External). has_slot (slots_at first global) other slot
    || (c.args.task == other && is_global global (slice_get es slot))) (take_all l.slot c.args.externals.now done)
