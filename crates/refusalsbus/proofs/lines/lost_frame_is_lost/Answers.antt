use Rattle.std.proofs.Common.{codes, lit<}
use Rattle.liveline.specs.Lines.{send_line}
use Rattle.refusalsbus.proofs.ShortTexts.{lost_alone}
use Rattle.refusalsbus.proofs.lines.lost_frame_is_lost.Goals as goal

pub returns : goal.returns
returns g c =
    lost_alone (send_line c.args.frame 3) c.send.result c.args.bus.now c.send.new.self (codes "lost\n")
    c.requires.text (lit< tt) c.send.ensures.asked
