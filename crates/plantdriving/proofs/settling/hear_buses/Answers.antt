use Rattle.std.proofs.Common.{◌≡◌, ◌≤◌, ℕ, map, refl, rules, subst}
use Rattle.plantdriving.proofs.Hearing.{none_heard, one_more_heard}
use Rattle.plantdriving.proofs.Linked.{scan_nothing}
use Rattle.plantdriving.proofs.Order.{heard_so_far}
use Rattle.plantdriving.proofs.Turned.{finish_of_scan, finish_then}
use Rattle.plantdriving.proofs.Tellings.{stopped_then, told_none, told_then}
use Rattle.plantdriving.proofs.settling.hear_buses.Goals as goal

pub returns-in_err-hear_at-clause-driven : goal.returns-in_err-hear_at-clause-driven
returns-in_err-hear_at-clause-driven g c =
    finish_then c.args.plant.now c.loop-bus.plant c.hear_at.new.plant (map g.B.Bus.log c.args.lines.now.items)
    (map g.B.Bus.log c.loop-bus.lines.items) (map g.B.Bus.log c.hear_at.new.lines.items) c.loop-bus.invariant.heard.driven
    c.hear_at.ensures.driven

pub loop-bus-preserved : goal.loop-bus-preserved
loop-bus-preserved g c = record {
  heard = one_more_heard c.args.plant.now c.loop-bus.plant c.hear_at.new.plant (map g.B.Bus.log c.args.lines.now.items)
      (map g.B.Bus.log c.loop-bus.lines.items) (map g.B.Bus.log c.hear_at.new.lines.items) c.loop-bus.bus
      c.loop-bus.invariant.heard c.hear_at.ensures.driven c.hear_at.ensures.only c.hear_at.ensures.others
      c.in_ok-hear_at.ensures.silent;
  told = told_then c.args.plant.now.history c.loop-bus.plant.history c.hear_at.new.plant.history
      (g.O.Observer.told c.args.observer.now) (g.O.Observer.told c.loop-bus.observer)
      (g.O.Observer.told c.hear_at.new.observer) c.loop-bus.invariant.told c.in_ok-hear_at.ensures.told;
}

pub loop-bus-init : goal.loop-bus-init
loop-bus-init g c =
    let logs = map g.B.Bus.log c.args.lines.now.items in
    record {
      heard = none_heard c.args.plant.now logs
          (finish_of_scan c.args.plant.now c.args.plant.now logs (scan_nothing c.args.plant.now));
      told = told_none c.args.plant.now.history c.args.plant.now.history (g.O.Observer.told c.args.observer.now)
          (g.O.Observer.told c.args.observer.now) refl refl;
    }

pub returns-in_err-hear_at-clause-order : goal.returns-in_err-hear_at-clause-order
returns-in_err-hear_at-clause-order g c =
    let same : c.buses-buses.result ≡ c.args.plant.now.plant.plan.buses = search rules in
    heard_so_far c.args.plant.now c.loop-bus.plant c.hear_at.new.plant (map g.B.Bus.log c.args.lines.now.items)
    (map g.B.Bus.log c.loop-bus.lines.items) c.loop-bus.bus c.loop-bus.invariant.heard c.hear_at.ensures.only
    (subst (λ (n : ℕ). c.loop-bus.bus ≤ n) same c.loop-bus.auto.bus-end)

pub returns-in_err-hear_at-clause-told : goal.returns-in_err-hear_at-clause-told
returns-in_err-hear_at-clause-told g c =
    stopped_then c.args.plant.now c.loop-bus.plant c.hear_at.new.plant (g.O.Observer.told c.args.observer.now)
    (g.O.Observer.told c.loop-bus.observer) (g.O.Observer.told c.hear_at.new.observer) c.in_err-hear_at.field-0.0
    c.from_residual.result c.from_residual.ensures.1 c.loop-bus.invariant.told c.in_err-hear_at.ensures.told
