use Rattle.refusalsplant.proofs.Turned.{taken_up}
use Rattle.refusalsplant.proofs.bus_turns.bus_that_comes_up_is_taken_up.Goals as goal

pub returns : goal.returns
returns g c =
    taken_up 0 c.args.served.now.share c.come_up.new.served.share (g.B.Bus.log c.args.served.now.line)
    (g.B.Bus.log c.come_up.new.served.line) c.come_up.result c.come_up.ensures.comes
