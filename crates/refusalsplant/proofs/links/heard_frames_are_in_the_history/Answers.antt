use Rattle.std.proofs.Common.{◌≡◌, ◌∙◌, ◌<◌, List, length, map, ap, sym, subst, arith}
use Rattle.std.proofs.lemmas.List.{length-map}
use Rattle.plantevents.specs.Plants.{Plant}
use Rattle.refusalsplant.proofs.Driven.{heard_as_noted}
use Rattle.refusalsplant.proofs.links.heard_frames_are_in_the_history.Goals as goal

pub heards-requires : goal.heards-requires
heards-requires g c = subst (λ (p : Plant). 0 < p.plan.buses) (sym c.settle.ensures.driven.plant) c.requires.known

pub returns : goal.returns
returns g c =
    let firsts = map g.B.Bus.log c.args.firsts.now.items in
    let driven = c.settle.ensures.driven in
    let h = c.settle.new.plant.history in
    let logs = map g.B.Bus.log c.settle.new.lines.items in
    let there : 0 < length logs =
    let many = driven.count in
    let before = length-map c.args.lines.now.items g.B.Bus.log in
    let count = c.requires.count in
    let known = c.requires.known in
    omega arith in
    c.heards.ensures.value
    ∙ (c.what_is_counted.ensures.heards 0 h
    ∙ ap length (sym (heard_as_noted firsts h logs (driven.linked firsts c.requires.linked) there c.requires.none)))
