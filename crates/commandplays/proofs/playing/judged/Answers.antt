use Rattle.std.proofs.Common.{◌∙◌, ◌↔◌, IsTrue, inl, inr, refl, subst}
use Rattle.plant.specs.Shown.{Shown}
use Rattle.plantplay.specs.Expected.{AreMet}
use Rattle.commandplays.proofs.playing.judged.Goals as goal

pub returns-then-are_met : goal.returns-then-are_met
returns-then-are_met c =
    let met = subst (λ (p : Shown). IsTrue c.are_met.result ↔ AreMet p c.args.expected.now) c.plant.ensures.value
    c.are_met.ensures in
    let t : IsTrue c.are_met.result = cc in
    inl (met.0 t, refl)

pub returns-else-are_met : goal.returns-else-are_met
returns-else-are_met c =
    let met = subst (λ (p : Shown). IsTrue c.are_met.result ↔ AreMet p c.args.expected.now) c.plant.ensures.value
    c.are_met.ensures in
    inr ((λ are. let t = met.1 are in absurd (cc)), c.unmet.ensures)
