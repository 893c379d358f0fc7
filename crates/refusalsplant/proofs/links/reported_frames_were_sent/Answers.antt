use Rattle.refusalsplant.proofs.Driven.{sent_as_reported}
use Rattle.refusalsplant.proofs.links.reported_frames_were_sent.Goals as goal

pub returns : goal.returns
returns g c =
    sent_as_reported c.args.plant.now (g.B.Bus.log c.args.line.now) c.send_next.new.plant
    (g.B.Bus.log c.send_next.new.line) c.send_next.result c.send_next.ensures.sends c.requires
