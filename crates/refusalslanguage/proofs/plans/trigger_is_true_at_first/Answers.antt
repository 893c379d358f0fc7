use Rattle.std.proofs.Common.{◌≡◌, ◌∙◌, [], ◌∷◌, true, refl}
use Rattle.iltypes.specs.declared.value.Value.TheVariants.{Bool}
use Rattle.ilplan.specs.declared.activation.Activation.TheVariants.{Event}
use Rattle.ilplan.specs.declared.slot.Slot.{Slot}
use Rattle.ilplan.specs.declared.slot.SlotOwner.TheVariants.{Global}
use Rattle.ilplan.specs.Plans.{PlannedTask, first_values}
use Rattle.refusalslanguage.proofs.Results.{if_ok}
use Rattle.refusalslanguage.proofs.plans.trigger_is_true_at_first.Goals as goal

true_first : (task : PlannedTask) (slot : Slot) → task.activation ≡ Event 4 → slot.variable ≡ Global 4
    → task.slots ≡ slot ∷ [] → first_values task ≡ Bool true ∷ []
true_first task slot event trigger slots = rw (slots, event, trigger) refl

pub returns : goal.returns
returns c =
    if_ok (λ values. values.items ≡ first_values c.args.task.now) (λ values. values.items ≡ Bool true ∷ [])
    c.first_values.result c.first_values.ensures (λ values are.
    are ∙ true_first c.args.task.now c.args.slot c.requires.event c.requires.trigger c.requires.slots)
