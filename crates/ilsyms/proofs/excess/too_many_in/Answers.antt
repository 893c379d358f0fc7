use Rattle.std.proofs.Common.{◌≡◌, ℕ, ◌+◌, ◌++◌, List, length, map, ap, ◌∙◌, subst, arith}
use Rattle.std.proofs.Math.ListN.{length-map, length-take}
use Rattle.std.specs.Prelude.{◌↔◌, Some, flat_map, slice_get}
use Rattle.limits.specs.Limits.{most_blocks, most_slots, most_words}
use Rattle.ilscope.specs.Uses.{uses_of}
use Rattle.ilscope.specs.Declarations.{declared_programs}
use Rattle.ilplan.specs.declared.instance.FunctionBlock.{FunctionBlock}
use Rattle.ilplan.specs.declared.slot.Slot.{Slot}
use Rattle.ilsyms.specs.Faults.{MakesTooManyConstants, place_of_slot}
use Rattle.ilsyms.specs.FunctionSteps.{Needs, marked}
use Rattle.ilsyms.specs.TaskSteps.{instances_of}
use Rattle.ilsyms.specs.Variables.{lines_of, slots_of}
use Rattle.ilsyms.specs.WordSteps.{places_of_program}
use Rattle.ilsyms.proofs.ExcessFaults.{least_in_task}
use Rattle.ilsyms.proofs.MarkedFunctions.{used_needs}
use Rattle.ilsyms.proofs.TaskInstances.{number_there}
use Rattle.ilsyms.proofs.WordPast.{words_in, words_same}
use Rattle.ilsyms.proofs.excess.too_many_in.Goals as goal

pub slot_past-requires : goal.slot_past-requires
slot_past-requires c =
    let tree = c.args.scope.now.tree in
    let all = slots_of tree (instances_of tree c.args.task.now.instances.now) in
    let is = ap (λ (ss : List Slot). length ss) (c.deref.ensures.value ∙ c.requires.task.have.slots) in
    omega (arith, is, length-take (most_slots + 1) all)

pub all_words_past-requires : goal.all_words_past-requires
all_words_past-requires c =
    λ k d below.
    let programs = declared_programs c.args.scope.now.tree in
    let low = number_there c.args.scope.now.tree c.args.task.now.instances.now c.requires.task.there k d below in
    let words = ap (λ (ws : List (List ℕ)). length ws) c.requires.words in
    let size = length-map programs places_of_program in
    omega (arith, low, words, size)

pub returns : goal.returns
returns c =
    let tree = c.args.scope.now.tree in
    let given = c.args.task.now.instances.now in
    let is = instances_of tree given in
    let have = c.requires.task.have in
    let used = c.deref-2.ensures.value ∙ have.used in
    let same : marked c.deref-2.result.now c.args.needs.now ≡ used_needs tree is =
    (λ i. marked (used i) (c.requires.needs i)) in
    let used_again = c.deref-4.ensures.value ∙ have.used in
    let same_again : marked c.deref-4.result.now c.args.needs.now ≡ used_needs tree is =
    (λ i. marked (used_again i) (c.requires.needs i)) in
    let slots = c.deref.ensures.value ∙ have.slots in
    let words = ap (λ (ws : List (List ℕ)). words_in ws given) c.requires.words ∙ words_same tree given in
    rw (c.lesser_of.ensures, c.lesser_of-declared.ensures, c.lesser_of-written.ensures)
    (least_in_task tree is c.args.after c.slot_past.result c.block_past.result c.all_words_past.result
    c.args.task.now.counted.excess c.exceeding.result c.exceeding-2.result c.exceeding-3.result c.exceeding-4.result
    (c.slot_past.ensures
    ∙ (λ i. slice_get (map (λ s. place_of_slot tree s.variable) (slots i)
    ++ flat_map (λ (one : Needs). one.slots) (same i)) most_slots))
    (c.block_past.ensures
    ∙ ap (λ (bs : List FunctionBlock). slice_get (map (λ b. b.name.from) bs) most_blocks)
    (c.deref-3.ensures.value ∙ have.blocks))
    (c.all_words_past.ensures
    ∙ (λ i. slice_get (words i ++ flat_map (λ (one : Needs). one.words) (same_again i)) most_words))
    have.counted.too_many
    c.exceeding.ensures c.exceeding-2.ensures c.exceeding-3.ensures c.exceeding-4.ensures)
