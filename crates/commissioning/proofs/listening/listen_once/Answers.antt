use Rattle.commissioning.proofs.Hearing.{one_recorded}
use Rattle.commissioning.proofs.listening.listen_once.Goals as goal

pub returns-in_ok-write_event-in-Ok-Some-clause-turn : goal.returns-in_ok-write_event-in-Ok-Some-clause-turn
returns-in_ok-write_event-in-Ok-Some-clause-turn g c =
    one_recorded c.args.number c.args.moment c.in-Ok-Some.frame c.in-Ok-Some.field-0 (g.B.Bus.log c.args.bus.now)
    (g.B.Bus.log c.hear.new.bus) (g.P.Write.contents c.args.scenario.now) (g.P.Write.contents c.record_event.new.scenario)
    c.in-Ok-Some.field-0-is c.in-Ok-Some.ensures.heard
    c.in_ok-record_event-in-Ok-Some.ensures
