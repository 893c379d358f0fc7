use Rattle.refusalsplant.proofs.Turned.{asked}
use Rattle.refusalsplant.proofs.bus_turns.bus_is_asked_to_hear.Goals as goal

pub returns : goal.returns
returns g c =
    asked c.hear_turn.result (g.B.Bus.log c.args.served.now.line).hears (g.B.Bus.log c.hear_turn.new.served.line).hears
    c.requires.asked c.requires.up c.hear_turn.ensures.asked
