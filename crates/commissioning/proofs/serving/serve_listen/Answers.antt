use Rattle.commissioning.proofs.Hearing.{listen_served}
use Rattle.commissioning.proofs.serving.serve_listen.Goals as goal

pub returns-clause-served : goal.returns-clause-served
returns-clause-served g c =
    listen_served c.args.number c.in_ok-silenced.silenced c.write_silenced.result (g.B.Bus.log c.args.bus.now)
    (g.B.Bus.log c.listen.new.bus) (g.P.Write.contents c.args.scenario.now)
    (g.P.Write.contents c.listen.new.scenario) c.in_ok-silenced.ensures.listened c.write_silenced.ensures
