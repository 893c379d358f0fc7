use Rattle.std.proofs.Common.{◌+◌}
use Rattle.plantdriving.specs.Order.{sends_at}
use Rattle.plantdriving.proofs.Linked.{step_then}
use Rattle.plantdriving.proofs.Order.{on_and_on, stopped_at, stops, stops_then}
use Rattle.plantdriving.proofs.Tellings.{stopped_then, told_then}
use Rattle.plantdriving.proofs.serving.turn.Goals as goal

pub returns-in_err-heard-clause-step : goal.returns-in_err-heard-clause-step
returns-in_err-heard-clause-step g c =
    step_then c.args.bus c.args.plant.now c.send_all.new.plant c.hear_next.new.plant (g.B.Bus.log c.args.line.now)
    (g.B.Bus.log c.send_all.new.line) (g.B.Bus.log c.hear_next.new.line) c.in_ok-sent.ensures.step
    c.in_err-heard.ensures.step

pub returns-then-sent-clause-step : goal.returns-then-sent-clause-step
returns-then-sent-clause-step g c =
    step_then c.args.bus c.args.plant.now c.send_all.new.plant c.hear_next.new.plant (g.B.Bus.log c.args.line.now)
    (g.B.Bus.log c.send_all.new.line) (g.B.Bus.log c.hear_next.new.line) c.in_ok-sent.ensures.step
    c.in_ok-heard.ensures.step

pub returns-then-sent-clause-goes_on : goal.returns-then-sent-clause-goes_on
returns-then-sent-clause-goes_on g c =
    let at = sends_at c.args.bus in
    on_and_on at at (sends_at (c.args.bus + 1)) c.args.plant.now c.send_all.new.plant c.hear_next.new.plant
    c.in_ok-sent.ensures.goes_on (c.in_ok-heard.ensures.goes_on c.in_ok-sent.ensures.none)

pub returns-else-sent-clause-goes_on : goal.returns-else-sent-clause-goes_on
returns-else-sent-clause-goes_on g c =
    let at = sends_at c.args.bus in
    on_and_on at at (sends_at (c.args.bus + 1)) c.args.plant.now c.send_all.new.plant c.hear_next.new.plant
    c.in_ok-sent.ensures.goes_on (c.in_ok-heard.ensures.goes_on c.in_ok-sent.ensures.none)

pub returns-in_err-sent-clause-goes_on : goal.returns-in_err-sent-clause-goes_on
returns-in_err-sent-clause-goes_on g c =
    let at = sends_at c.args.bus in
    stopped_at at (sends_at (c.args.bus + 1)) c.args.plant.now c.send_all.new.plant c.from_residual.result _
    c.from_residual.ensures.1 (stops at at c.args.plant.now c.send_all.new.plant c.in_err-sent.ensures.goes_on)

pub returns-in_err-heard-clause-goes_on : goal.returns-in_err-heard-clause-goes_on
returns-in_err-heard-clause-goes_on g c =
    let at = sends_at c.args.bus in let p = c.args.plant.now in let q = c.send_all.new.plant in
    let r = c.hear_next.new.plant in
    stopped_at at (sends_at (c.args.bus + 1)) p r c.from_residual-in_err-heard.result _
    c.from_residual-in_err-heard.ensures.1 (stops_then at at p q r c.in_ok-sent.ensures.goes_on
    (stops at (sends_at (c.args.bus + 1)) q r (c.in_err-heard.ensures.goes_on c.in_ok-sent.ensures.none)))

pub returns-in_err-heard-clause-told : goal.returns-in_err-heard-clause-told
returns-in_err-heard-clause-told g c =
    stopped_then c.args.plant.now c.send_all.new.plant c.hear_next.new.plant (g.O.Observer.told c.args.observer.now)
    (g.O.Observer.told c.send_all.new.observer) (g.O.Observer.told c.hear_next.new.observer)
    c.in_err-heard.field-0.0 c.from_residual-in_err-heard.result c.from_residual-in_err-heard.ensures.1
    c.in_ok-sent.ensures.told c.in_err-heard.ensures.told

pub returns-then-sent-clause-told : goal.returns-then-sent-clause-told
returns-then-sent-clause-told g c =
    told_then c.args.plant.now.history c.send_all.new.plant.history c.hear_next.new.plant.history
    (g.O.Observer.told c.args.observer.now) (g.O.Observer.told c.send_all.new.observer)
    (g.O.Observer.told c.hear_next.new.observer) c.in_ok-sent.ensures.told c.in_ok-heard.ensures.told

pub returns-else-sent-clause-told : goal.returns-else-sent-clause-told
returns-else-sent-clause-told g c =
    told_then c.args.plant.now.history c.send_all.new.plant.history c.hear_next.new.plant.history
    (g.O.Observer.told c.args.observer.now) (g.O.Observer.told c.send_all.new.observer)
    (g.O.Observer.told c.hear_next.new.observer) c.in_ok-sent.ensures.told c.in_ok-heard.ensures.told
