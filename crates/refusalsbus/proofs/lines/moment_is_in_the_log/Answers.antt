use Rattle.refusalsbus.proofs.Logs.{given_is}
use Rattle.refusalsbus.proofs.lines.moment_is_in_the_log.Goals as goal

pub returns : goal.returns
returns g c =
    given_is c.now.result (g.C.Clock.log c.args.clock.now) (g.C.Clock.log c.now.new.self) c.now.ensures.logged
