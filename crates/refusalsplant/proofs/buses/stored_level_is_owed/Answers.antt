use Rattle.std.proofs.Common.{◌∙◌, ◌<◌, ap, lit<}
use Rattle.plantbuses.specs.AddressSets.{one_if}
use Rattle.refusalsplant.proofs.buses.stored_level_is_owed.Goals as goal

pub returns : goal.returns
returns c =
    let plant = c.args.plant.now in
    let after = c.note_stores.ensures plant.plant plant.history c.requires.plan c.requires.buses c.requires.image c.requires.beside in
    let known : 0 < plant.plant.plan.buses = rw c.requires.plan c.requires.known in
    λ class owes. after.1 0 known class 5 (lit< tt) ∙ ap one_if owes
