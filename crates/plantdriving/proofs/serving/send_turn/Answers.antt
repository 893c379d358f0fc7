use Rattle.plantdriving.proofs.Order.{sends_go_on}
use Rattle.plantdriving.proofs.Refused.{halted_stops, halted_tells}
use Rattle.plantdriving.proofs.Sent.{step_of_sends}
use Rattle.plantdriving.proofs.Tellings.{idle_telling}
use Rattle.plantdriving.proofs.serving.send_turn.Goals as goal

pub returns-in-Ok-clause-step : goal.returns-in-Ok-clause-step
returns-in-Ok-clause-step g c =
    step_of_sends {A = Unit} c.args.bus c.args.plant.now c.send_next.new.plant (g.B.Bus.log c.args.line.now)
    (g.B.Bus.log c.send_next.new.line) c.send_next.result
    c.send_next.ensures.sends

pub returns-in-Err-clause-step : goal.returns-in-Err-clause-step
returns-in-Err-clause-step g c =
    step_of_sends {A = Unit} c.args.bus c.args.plant.now c.send_next.new.plant (g.B.Bus.log c.args.line.now)
    (g.B.Bus.log c.send_next.new.line) c.send_next.result
    c.send_next.ensures.sends

pub returns-in-Err-clause-turn : goal.returns-in-Err-clause-turn
returns-in-Err-clause-turn g c =
    halted_tells c.args.plant.now c.send_next.new.plant c.args.bus (g.B.Bus.log c.args.line.now)
    (g.B.Bus.log c.send_next.new.line) c.in-Err.halt c.idle_where_refused.result c.in-Err.ensures.sends
    c.idle_where_refused.ensures

pub returns-in-Err-clause-stops : goal.returns-in-Err-clause-stops
returns-in-Err-clause-stops g c =
    halted_stops c.args.plant.now c.send_next.new.plant c.args.bus (g.B.Bus.log c.args.line.now)
    (g.B.Bus.log c.send_next.new.line) c.in-Err.halt c.idle_where_refused.result c.requires.known c.requires.open
    c.in-Err.ensures.sends c.idle_where_refused.ensures

pub returns-in-Ok-clause-goes_on : goal.returns-in-Ok-clause-goes_on
returns-in-Ok-clause-goes_on g c =
    sends_go_on {A = Unit} c.args.bus c.args.plant.now c.send_next.new.plant (g.B.Bus.log c.args.line.now)
    (g.B.Bus.log c.send_next.new.line) c.send_next.result c.send_next.ensures.sends

pub returns-in-Err-clause-goes_on : goal.returns-in-Err-clause-goes_on
returns-in-Err-clause-goes_on g c =
    sends_go_on {A = Unit} c.args.bus c.args.plant.now c.send_next.new.plant (g.B.Bus.log c.args.line.now)
    (g.B.Bus.log c.send_next.new.line) c.send_next.result c.send_next.ensures.sends

pub returns-in-Err-clause-told : goal.returns-in-Err-clause-told
returns-in-Err-clause-told g c =
    idle_telling c.args.plant.now c.send_next.new.plant (g.O.Observer.told c.args.observer.now)
    (g.O.Observer.told c.send_next.new.observer) c.in-Err.halt c.idle_where_refused.result c.in-Err.ensures.told
    c.idle_where_refused.ensures
