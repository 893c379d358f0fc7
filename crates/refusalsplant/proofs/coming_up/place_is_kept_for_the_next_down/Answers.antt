use Rattle.std.proofs.Common.{◌∙◌, ap}
use Rattle.plant.specs.Shown.{used}
use Rattle.refusalsplant.proofs.ComingUp.{two_places}
use Rattle.refusalsplant.proofs.coming_up.place_is_kept_for_the_next_down.Goals as goal

pub returns : goal.returns
returns c =
    c.used_places.ensures.value
    ∙ (ap used c.in_ok-up.ensures.ok ∙ two_places c.args.plant.now c.requires.known c.requires.down)
