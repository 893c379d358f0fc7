use Rattle.commissioning.specs.Blinking.{IsSomeShown}
use Rattle.refusalslive.proofs.Installed.{fails_once}
use Rattle.refusalslive.proofs.installing.blink_fails_once.Goals as goal

pub returns : goal.returns
returns g c =
    fails_once (IsSomeShown c.args.address) c.blink.result (g.B.Bus.log c.args.bus.now) (g.B.Bus.log c.blink.new.bus)
    c.blink.ensures.fault c.requires
