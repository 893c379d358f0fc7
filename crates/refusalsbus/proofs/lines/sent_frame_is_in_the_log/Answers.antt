use Rattle.refusalsbus.proofs.Logs.{sent_is}
use Rattle.refusalsbus.proofs.lines.sent_frame_is_in_the_log.Goals as goal

pub returns : goal.returns
returns g c =
    sent_is c.args.frame c.args.priority c.send.result (g.B.Bus.log c.args.bus.now) (g.B.Bus.log c.send.new.self)
    c.send.ensures
