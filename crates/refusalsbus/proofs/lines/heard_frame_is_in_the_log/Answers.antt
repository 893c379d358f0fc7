use Rattle.refusalsbus.proofs.Logs.{heard_is}
use Rattle.refusalsbus.proofs.lines.heard_frame_is_in_the_log.Goals as goal

pub returns : goal.returns
returns g c =
    heard_is c.hear.result (g.B.Bus.log c.args.bus.now) (g.B.Bus.log c.hear.new.self) c.hear.ensures.logged
