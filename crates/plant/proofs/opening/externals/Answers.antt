use Rattle.plant.proofs.FirstImages.{external_turn}
use Rattle.std.proofs.Common.{◌∙◌, ◌++◌, ap}
use Rattle.std.specs.Prelude.{option_to_list}
use Rattle.plant.proofs.opening.externals.Goals as goal

pub loop-number-preserved : goal.loop-number-preserved
loop-number-preserved c =
    let items = c.loop-number.externals.items in
    external_turn c.args.task.now c.slots-slots.result.now c.loop-number.number c.index-slots-number.result items
    c.push_some.new.items.items _ c.slots-slots.ensures.value c.loop-number-test.true c.index-slots-number.is
    (c.in_ok-push_some.ensures ∙ ap (λ o. items ++ option_to_list o) c.external_at.ensures.value)
    c.loop-number.invariant
