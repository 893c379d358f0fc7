use Rattle.std.proofs.Common.{◌∙◌, ◌<◌, sym, subst}
use Rattle.plantevents.specs.Plants.{Plant}
use Rattle.refusalsplant.proofs.Driven.{down_where_failed, sent_plant}
use Rattle.refusalsplant.proofs.links.bus_goes_down_only_where_it_failed.Goals as goal

pub is_down-requires : goal.is_down-requires
is_down-requires g c =
    let same = sent_plant c.args.plant.now (g.B.Bus.log c.args.line.now) c.send_next.new.plant
    (g.B.Bus.log c.send_next.new.line) c.in_ok-send_next.ensures.sends in
    subst (λ (p : Plant). 0 < p.plan.buses) (sym same) c.requires

pub returns : goal.returns
returns g c = λ down.
    down_where_failed c.args.plant.now (g.B.Bus.log c.args.line.now) c.send_next.new.plant
    (g.B.Bus.log c.send_next.new.line) c.in_ok-send_next.ensures.sends (sym c.is_down.ensures.value ∙ down)
