use Rattle.std.proofs.Common.{◌≡◌, ◌<◌, ℕ, false, None, Some, length, refl, sym, ap, ◌∙◌, arith}
use Rattle.std.proofs.lemmas.Bool.{and_right}
use Rattle.std.proofs.lemmas.List.{get_or_read}
use Rattle.std.specs.Prelude.{slice_index_or}
use Rattle.ilmachine.specs.Images.{Global}
use Rattle.plantevents.specs.Waiting.{handed_level}
use Rattle.plantbuses.specs.AddressSets.{one_if}
use Rattle.plantbuses.specs.KeptSteps.{KeptBus}
use Rattle.plantbuses.specs.OutputSteps.{level_output}
use Rattle.plantbuses.proofs.OwedBits.{level_owes, none_owes}
use Rattle.plantbuses.proofs.owed.note_level.Goals as goal

pub returns-in_default-clause-here : goal.returns-in_default-clause-here
returns-in_default-clause-here c = λ p b h class located follows imaged.
    let a = c.args.address in let low : a < 81 = omega arith in
    let none : level_output p b a ≡ None = sym (located.1 a low) ∙ (sym c.at.ensures ∙ c.in_default.is) in
    c.note.ensures.here class
    ∙ (ap one_if (and_right _ false refl) ∙ ap one_if (sym (none_owes p b a h class none)))

pub returns-clause-here : goal.returns-clause-here
returns-clause-here c = λ p b h class located follows imaged.
    let a = c.args.address in let low : a < 81 = omega arith in let output = c.in-Some.output in
    let is : level_output p b a ≡ Some output = sym (located.1 a low) ∙ (sym c.at.ensures ∙ c.in-Some.is) in
    let levels = c.bus.inside.levels.items in
    let many : length levels ≡ length c.args.bus.now.levels = ap (λ (x : KeptBus). length x.levels) c.bus.view_is in
    let inside : c.from.result < length levels =
    let e = c.from.ensures in let r = c.requires.levels in omega arith in
    let last : c.index-last.result.now ≡ handed_level b a h =
    get_or_read levels c.from.result c.index-last.result.now inside c.index-last.ensures 255
    ∙ (ap (λ (n : ℕ). slice_index_or levels n 255) c.from.ensures
    ∙ (ap (λ (x : KeptBus). slice_index_or x.levels a 255) c.bus.view_is ∙ follows.levels a low)) in
    c.note-2.ensures.here class
    ∙ ap one_if (level_owes p b a h output class c.index-last.result.now c.value_at-value.result c.is_new.result is last
    (c.value_at-value.ensures ∙ imaged.values (Global output.global)) (c.is_new.ensures a))
