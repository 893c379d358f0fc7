use Rattle.std.proofs.Common.{◌∙◌, ap, sym}
use Rattle.simbus.specs.Histories.{is_reached}
use Rattle.simbus.proofs.equipment.Equipment.see.Goals as goal

pub returns-then-is_reached : goal.returns-then-is_reached
returns-then-is_reached c = λ setup earlier s e m kept.
    c.take.ensures setup earlier s (e, ap is_reached m ∙ (sym c.is_reached.ensures ∙ c.if-is_reached.true)) kept

pub returns-else-is_reached : goal.returns-else-is_reached
returns-else-is_reached c = λ setup earlier s e m kept.
    c.miss.ensures setup earlier s (ap is_reached m ∙ (sym c.is_reached.ensures ∙ c.if-is_reached.false)) kept
