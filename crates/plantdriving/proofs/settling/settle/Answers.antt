use Rattle.std.proofs.Common.{map}
use Rattle.plantdriving.proofs.Order.{came_in_order, heard_first, none_came}
use Rattle.plantdriving.proofs.Settled.{quiet_on}
use Rattle.plantdriving.proofs.Turned.{finish_then}
use Rattle.plantdriving.proofs.Tellings.{tells_then}
use Rattle.plantdriving.proofs.settling.settle.Goals as goal

pub returns-clause-driven : goal.returns-clause-driven
returns-clause-driven g c =
    finish_then c.args.plant.now c.hear_buses.new.plant c.finish.new.plant (map g.B.Bus.log c.args.lines.now.items)
    (map g.B.Bus.log c.hear_buses.new.lines.items) (map g.B.Bus.log c.finish.new.lines.items)
    c.hear_buses.ensures.driven c.finish.ensures.driven

pub returns-clause-quiet : goal.returns-clause-quiet
returns-clause-quiet g c =
    quiet_on c.finish.new.plant (map g.B.Bus.log c.args.lines.now.items)
    (map g.B.Bus.log c.hear_buses.new.lines.items) (map g.B.Bus.log c.finish.new.lines.items) c.finish.result
    c.hear_buses.ensures.driven.hears c.finish.ensures.quiet

pub returns-clause-heard : goal.returns-clause-heard
returns-clause-heard g c =
    heard_first c.args.plant.now c.hear_buses.new.plant c.finish.new.plant (map g.B.Bus.log c.args.lines.now.items)
    (map g.B.Bus.log c.hear_buses.new.lines.items) (map g.B.Bus.log c.finish.new.lines.items) c.finish.result
    c.in_ok-hear_buses.ensures.heard c.finish.ensures.driven c.finish.ensures.goes_on

pub returns-clause-order : goal.returns-clause-order
returns-clause-order g c =
    came_in_order c.args.plant.now c.hear_buses.new.plant c.finish.new.plant c.finish.result c.hear_buses.ensures.order
    c.hear_buses.ensures.driven.plant c.finish.ensures.goes_on

pub returns-in_err-hear_buses-clause-order : goal.returns-in_err-hear_buses-clause-order
returns-in_err-hear_buses-clause-order g c =
    none_came c.args.plant.now c.hear_buses.new.plant c.hear_buses.ensures.order c.hear_buses.ensures.driven.plant

pub returns-clause-told : goal.returns-clause-told
returns-clause-told g c =
    tells_then c.args.plant.now c.hear_buses.new.plant c.finish.new.plant (g.O.Observer.told c.args.observer.now)
    (g.O.Observer.told c.hear_buses.new.observer) (g.O.Observer.told c.finish.new.observer) c.finish.result
    c.in_ok-hear_buses.ensures.told c.finish.ensures.told
