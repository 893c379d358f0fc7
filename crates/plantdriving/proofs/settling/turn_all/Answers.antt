use Rattle.std.proofs.Common.{◌+◌, map, refl}
use Rattle.plantdriving.specs.Order.{sends_at}
use Rattle.plantdriving.specs.Quiet.{HasNoFrame, HasNoHandout}
use Rattle.plantdriving.specs.Links.{log_of}
use Rattle.plantdriving.proofs.Settled.{turned_did, turned_not}
use Rattle.plantdriving.proofs.Linked.{scan_nothing}
use Rattle.plantdriving.proofs.Order.{on_and_on, stays, stopped_at, stops_then}
use Rattle.plantdriving.proofs.Turned.{finish_of_scan, finish_then, turned_none}
use Rattle.plantdriving.proofs.Tellings.{stopped_then, told_none, told_then}
use Rattle.plantdriving.proofs.settling.turn_all.Goals as goal
use Rattle.plantdriving.proofs.settling.turn_all.Goals.{then-branch, else-branch}

pub returns-in_err-turn_at-clause-driven : goal.returns-in_err-turn_at-clause-driven
returns-in_err-turn_at-clause-driven g c =
    finish_then c.args.plant.now c.loop-bus.plant c.turn_at.new.plant (map g.B.Bus.log c.args.lines.now.items)
    (map g.B.Bus.log c.loop-bus.lines.items) (map g.B.Bus.log c.turn_at.new.lines.items) c.loop-bus.invariant.driven
    c.in_err-turn_at.ensures.driven

pub loop-bus-preserved : goal.loop-bus-preserved
loop-bus-preserved g c =
    let p = c.args.plant.now in let q = c.loop-bus.plant in let r = c.turn_at.new.plant in
    let before = map g.B.Bus.log c.args.lines.now.items in let between = map g.B.Bus.log c.loop-bus.lines.items in
    let after = map g.B.Bus.log c.turn_at.new.lines.items in
    let n = c.loop-bus.bus in let did = c.in_ok-turn_at.field-0 in let now = c.if-branch.any in
    let is = c.in_ok-turn_at.ensures in
    record {
      driven = finish_then p q r before between after c.loop-bus.invariant.driven is.driven;
      goes_on = on_and_on (sends_at 0) (sends_at n) (sends_at (n + 1)) p q r c.loop-bus.invariant.goes_on is.goes_on;
      turned = elim c.if-branch.branch [
        | then-branch w ↦
            turned_did p q r before between after n
            (HasNoHandout q n × HasNoFrame q n (log_of between n) (log_of after n)) did now c.loop-bus.invariant.driven
            is.turn w.if-branch.true w.any-is
        | else-branch w ↦
            turned_not p q r before between after n did c.loop-bus.any now c.loop-bus.invariant.turned
            c.loop-bus.invariant.driven is.others is.turn w.if-branch.false w.any-is
      ];
      told = told_then c.args.plant.now.history c.loop-bus.plant.history c.turn_at.new.plant.history
          (g.O.Observer.told c.args.observer.now) (g.O.Observer.told c.loop-bus.observer)
          (g.O.Observer.told c.turn_at.new.observer) c.loop-bus.invariant.told c.in_ok-turn_at.ensures.told;
    }

pub loop-bus-init : goal.loop-bus-init
loop-bus-init g c =
    let logs = map g.B.Bus.log c.args.lines.now.items in
    record {
      driven = finish_of_scan c.args.plant.now c.args.plant.now logs (scan_nothing c.args.plant.now);
      goes_on = stays c.args.plant.now c.args.plant.now (sends_at 0) refl refl;
      turned = turned_none c.args.plant.now logs;
      told = told_none c.args.plant.now.history c.args.plant.now.history (g.O.Observer.told c.args.observer.now)
          (g.O.Observer.told c.args.observer.now) refl refl;
    }

pub returns-in_err-turn_at-clause-goes_on : goal.returns-in_err-turn_at-clause-goes_on
returns-in_err-turn_at-clause-goes_on g c =
    stopped_at (sends_at 0) (sends_at c.args.plant.now.plant.plan.buses) c.args.plant.now c.turn_at.new.plant
    c.from_residual.result _ c.from_residual.ensures.1 (stops_then (sends_at 0) (sends_at c.loop-bus.bus) c.args.plant.now c.loop-bus.plant
    c.turn_at.new.plant c.loop-bus.invariant.goes_on c.in_err-turn_at.ensures.goes_on)

pub returns-in_err-turn_at-clause-told : goal.returns-in_err-turn_at-clause-told
returns-in_err-turn_at-clause-told g c =
    stopped_then c.args.plant.now c.loop-bus.plant c.turn_at.new.plant (g.O.Observer.told c.args.observer.now)
    (g.O.Observer.told c.loop-bus.observer) (g.O.Observer.told c.turn_at.new.observer) c.in_err-turn_at.field-0.0
    c.from_residual.result c.from_residual.ensures.1 c.loop-bus.invariant.told c.in_err-turn_at.ensures.told

pub returns-clause-told : goal.returns-clause-told
returns-clause-told g c = c.loop-bus.invariant.told
