use Rattle.std.proofs.Common.{◌∙◌, ◌<◌, map, sym, subst}
use Rattle.plantevents.specs.Plants.{Plant}
use Rattle.plantdriving.specs.Links.{log_of}
use Rattle.refusalsplant.proofs.Driven.{silent_if_up}
use Rattle.refusalsplant.proofs.links.bus_is_heard_to_its_end.Goals as goal

pub is_down-requires : goal.is_down-requires
is_down-requires g c = subst (λ (p : Plant). 0 < p.plan.buses) (sym c.settle.ensures.driven.plant) c.requires.known

pub returns : goal.returns
returns g c = λ up.
    let there = subst (λ (p : Plant). 0 < p.plan.buses) (sym c.settle.ensures.driven.plant) c.requires.known in
    silent_if_up c.settle.new.plant (log_of (map g.B.Bus.log c.args.lines.now.items) 0)
    (log_of (map g.B.Bus.log c.settle.new.lines.items) 0) (c.in_ok-settle.ensures.quiet.heard 0 there)
    (sym c.is_down.ensures.value ∙ up)
