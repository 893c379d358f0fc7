use Rattle.refusalsplant.proofs.Driven.{only_down}
use Rattle.refusalsplant.proofs.Refusing.{down_first}
use Rattle.refusalsplant.proofs.links.refusal_is_not_out_of_memory.Goals as goal

pub returns : goal.returns
returns g c =
    only_down c.args.plant.now (g.B.Bus.log c.args.line.now) c.send_next.new.plant (g.B.Bus.log c.send_next.new.line)
    c.send_next.result c.send_next.ensures.sends (down_first c.args.plant.now c.requires.known c.requires.down)
