use Rattle.std.proofs.Common.{◌≡◌, ◌∙◌, ℕ, Option, option_and_then, slice_get, ap}
use Rattle.ilmachine.specs.Images.{ImageVariable, Layout, Own, layout_of, value_of, variable_in}
use Rattle.refusalscode.proofs.ImageSlots.{as_many}
use Rattle.refusalscode.proofs.Results.{if_ok}
use Rattle.refusalscode.proofs.images.scan_begins_with_what_the_last_one_left.Goals as goal

pub take-requires : goal.take-requires
take-requires c = as_many c.commit.new.self c.args.image.now c.commit.ensures.layout 0 c.requires.task

pub returns : goal.returns
returns c =
    let image = c.commit.new.self in
    let slot = ap (λ (l : Layout). variable_in l 0 2) c.commit.ensures.layout ∙ c.requires.slot in
    if_ok (λ snapshot. (slot : ℕ) → slice_get snapshot.lasting.slots slot
    ≡ option_and_then (value_of image) (variable_in (layout_of image) 0 slot))
    (λ snapshot. slice_get snapshot.lasting.slots 2 ≡ slice_get c.args.values.now 2) c.take.result
    c.take.ensures.values (λ snapshot values. values 2
    ∙ (ap (λ (v : Option ImageVariable). option_and_then (value_of image) v) slot
    ∙ c.commit.ensures.written 2 (Own 0 0) c.requires.own))
