use Rattle.std.proofs.Common.{◌≡◌, ◌∙◌, ℕ, Option, Some, option_and_then, slice_get, ap}
use Rattle.ilmachine.specs.Images.{ImageVariable, Layout, layout_of, value_of, variable_in}
use Rattle.refusalscode.proofs.ImageSlots.{as_many}
use Rattle.refusalscode.proofs.Results.{if_ok}
use Rattle.refusalscode.proofs.images.input_reaches_each_task.Goals as goal

pub take-requires : goal.take-requires
take-requires c =
    as_many c.set_input.new.self c.args.image.now c.set_input.ensures.layout 3 c.requires.task

pub returns : goal.returns
returns c =
    let image = c.set_input.new.self in
    let slot = ap (λ (l : Layout). variable_in l 3 0) c.set_input.ensures.layout ∙ c.requires.slot in
    if_ok (λ snapshot. (slot : ℕ) → slice_get snapshot.lasting.slots slot
    ≡ option_and_then (value_of image) (variable_in (layout_of image) 3 slot))
    (λ snapshot. slice_get snapshot.lasting.slots 0 ≡ Some c.args.value) c.take.result
    c.take.ensures.values (λ snapshot values. values 0
    ∙ (ap (λ (v : Option ImageVariable). option_and_then (value_of image) v) slot ∙ c.set_input.ensures.written))
