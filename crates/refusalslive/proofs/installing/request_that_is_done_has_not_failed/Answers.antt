use Rattle.refusalslive.proofs.Installed.{done_is_whole}
use Rattle.refusalslive.proofs.installing.request_that_is_done_has_not_failed.Goals as goal

pub returns : goal.returns
returns g c =
    done_is_whole c.args.command c.serve_ask.result (g.B.Bus.log c.args.bus.now) (g.B.Bus.log c.serve_ask.new.bus)
    c.serve_ask.ensures.served c.requires
