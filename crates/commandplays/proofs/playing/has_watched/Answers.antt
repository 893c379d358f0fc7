use Rattle.std.proofs.Common.{◌∙◌, ◌↔◌, IsTrue, ap, subst}
use Rattle.ilplan.specs.Plans.{Planned}
use Rattle.plant.specs.Shown.{Shown}
use Rattle.plantplay.specs.Watched.{AreWatchable}
use Rattle.commandplays.proofs.playing.has_watched.Goals as goal

pub returns : goal.returns
returns c =
    subst (λ (p : Planned). IsTrue c.are_watchable.result ↔ AreWatchable p c.args.watched.now)
    (c.plan.ensures.value ∙ c.setup.ensures.plan ∙ ap (λ (p : Shown). p.plant.plan) c.plant.ensures.value)
    c.are_watchable.ensures
