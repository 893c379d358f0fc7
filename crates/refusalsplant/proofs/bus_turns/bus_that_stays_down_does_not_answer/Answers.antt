use Rattle.refusalsplant.proofs.Turned.{silent_where_down}
use Rattle.refusalsplant.proofs.bus_turns.bus_that_stays_down_does_not_answer.Goals as goal

pub returns : goal.returns
returns g c =
    silent_where_down 1 c.args.served.now.share c.come_up.new.served.share (g.B.Bus.log c.args.served.now.line)
    (g.B.Bus.log c.come_up.new.served.line) c.come_up.result c.come_up.ensures.comes
