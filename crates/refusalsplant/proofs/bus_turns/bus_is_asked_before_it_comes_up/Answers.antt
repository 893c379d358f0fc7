use Rattle.refusalsplant.proofs.Turned.{asked_where_idle}
use Rattle.refusalsplant.proofs.bus_turns.bus_is_asked_before_it_comes_up.Goals as goal

pub returns : goal.returns
returns g c =
    asked_where_idle 0 c.args.served.now.share c.come_up.new.served.share (g.B.Bus.log c.args.served.now.line)
    (g.B.Bus.log c.come_up.new.served.line) c.come_up.result c.come_up.ensures.comes
