use Rattle.std.proofs.Common.{◌≡◌, ◌∙◌, ℕ, Some, option_and_then, slice_get}
use Rattle.ilmachine.specs.Images.{layout_of, value_under, variable_in}
use Rattle.refusalscode.proofs.ImageSlots.{has_override}
use Rattle.refusalscode.proofs.Results.{if_ok}
use Rattle.refusalscode.proofs.images.override_reaches_the_task.Goals as goal

pub returns : goal.returns
returns c =
    let image = c.args.image.now in
    let overrides = c.args.overrides.now in
    if_ok (λ snapshot. (slot : ℕ) → slice_get snapshot.lasting.slots slot
    ≡ option_and_then (value_under overrides image) (variable_in (layout_of image) 0 slot))
    (λ snapshot. slice_get snapshot.lasting.slots 0 ≡ Some c.args.given.value) c.take_with.result
    c.take_with.ensures.values (λ snapshot values. values 0
    ∙ has_override image overrides c.args.given (variable_in (layout_of image) 0 0) c.requires.one c.requires.global
    c.requires.slot)
