use Rattle.std.proofs.Common.{◌∙◌, ◌<◌, length, ap, sym, subst}
use Rattle.plantevents.specs.Waiting.{waiting}
use Rattle.plant.specs.Shown.{Shown}
use Rattle.refusalsplant.proofs.coming_up.requests_wait_while_a_bus_is_down.Goals as goal

pub waiting-requires : goal.waiting-requires
waiting-requires c = subst (λ (p : Shown). 0 < p.plant.plan.buses) (sym c.in_ok-up.ensures.ok) c.requires.known

pub returns : goal.returns
returns c =
    c.waiting.ensures.value
    ∙ (ap (λ (p : Shown). length (waiting p.plant 0 2 p.history)) c.in_ok-up.ensures.ok ∙ c.requires.waits)
