use Rattle.std.proofs.Common.{map, refl, arith}
use Rattle.plantdriving.specs.Order.{scans_at}
use Rattle.plantdriving.specs.Quiet.{IsQuiet}
use Rattle.plantdriving.proofs.Settled.{long_enough, quiet_since}
use Rattle.plantdriving.proofs.Linked.{scan_nothing}
use Rattle.plantdriving.proofs.Order.{on_and_on, stays, stopped_at, stops_then}
use Rattle.plantdriving.proofs.Turned.{did_nothing, finish_of_scan, finish_then}
use Rattle.plantdriving.proofs.Tellings.{stopped_then, told_none, told_then}
use Rattle.plantdriving.proofs.settling.finish.Goals as goal

pub returns-in_err-round-clause-driven : goal.returns-in_err-round-clause-driven
returns-in_err-round-clause-driven g c =
    finish_then c.args.plant.now c.loop.plant c.round.new.plant (map g.B.Bus.log c.args.lines.now.items)
    (map g.B.Bus.log c.loop.lines.items) (map g.B.Bus.log c.round.new.lines.items) c.loop.invariant.driven
    c.in_err-round.ensures.driven

pub returns-then-not-branch-clause-driven : goal.returns-then-not-branch-clause-driven
returns-then-not-branch-clause-driven g c =
    finish_then c.args.plant.now c.loop.plant c.round.new.plant (map g.B.Bus.log c.args.lines.now.items)
    (map g.B.Bus.log c.loop.lines.items) (map g.B.Bus.log c.round.new.lines.items) c.loop.invariant.driven
    c.in_ok-round.ensures.driven

pub returns-then-not-branch-clause-quiet : goal.returns-then-not-branch-clause-quiet
returns-then-not-branch-clause-quiet g c =
    let q = c.loop.plant in let r = c.round.new.plant in
    let before = map g.B.Bus.log c.args.lines.now.items in let between = map g.B.Bus.log c.loop.lines.items in
    let after = map g.B.Bus.log c.round.new.lines.items in
    quiet_since r before between after c.loop.invariant.driven.hears
    (did_nothing (IsQuiet r between after) q r c.in_ok-round.field-0 c.in_ok-round.ensures.turn c.if-not-branch.true).1

pub loop-preserved : goal.loop-preserved
loop-preserved g c =
    let p = c.args.plant.now in let q = c.loop.plant in let r = c.round.new.plant in
    let before = map g.B.Bus.log c.args.lines.now.items in let between = map g.B.Bus.log c.loop.lines.items in
    let after = map g.B.Bus.log c.round.new.lines.items in
    record {
      driven = finish_then p q r before between after c.loop.invariant.driven c.in_ok-round.ensures.driven;
      goes_on = on_and_on scans_at scans_at scans_at p q r c.loop.invariant.goes_on c.in_ok-round.ensures.goes_on;
      long = long_enough p q r c.loop.counter (IsQuiet r between after) c.in_ok-round.field-0 c.loop.invariant.long
          c.in_ok-round.ensures.turn c.if-not-branch.false;
      told = told_then c.args.plant.now.history c.loop.plant.history c.round.new.plant.history
          (g.O.Observer.told c.args.observer.now) (g.O.Observer.told c.loop.observer)
          (g.O.Observer.told c.round.new.observer) c.loop.invariant.told c.in_ok-round.ensures.told;
    }

pub loop-init : goal.loop-init
loop-init g c = record {
  driven = finish_of_scan c.args.plant.now c.args.plant.now (map g.B.Bus.log c.args.lines.now.items)
      (scan_nothing c.args.plant.now);
  goes_on = stays c.args.plant.now c.args.plant.now scans_at refl refl;
  long = omega arith;
  told = told_none c.args.plant.now.history c.args.plant.now.history (g.O.Observer.told c.args.observer.now)
      (g.O.Observer.told c.args.observer.now) refl refl;
}

pub returns-then-not-branch-clause-goes_on : goal.returns-then-not-branch-clause-goes_on
returns-then-not-branch-clause-goes_on g c =
    on_and_on scans_at scans_at scans_at c.args.plant.now c.loop.plant c.round.new.plant c.loop.invariant.goes_on
    c.in_ok-round.ensures.goes_on

pub returns-in_err-round-clause-goes_on : goal.returns-in_err-round-clause-goes_on
returns-in_err-round-clause-goes_on g c =
    stopped_at scans_at scans_at c.args.plant.now c.round.new.plant c.from_residual.result _ c.from_residual.ensures.1
    (stops_then scans_at scans_at c.args.plant.now c.loop.plant c.round.new.plant
    c.loop.invariant.goes_on c.in_err-round.ensures.goes_on)

pub returns-in_err-round-clause-told : goal.returns-in_err-round-clause-told
returns-in_err-round-clause-told g c =
    stopped_then c.args.plant.now c.loop.plant c.round.new.plant (g.O.Observer.told c.args.observer.now)
    (g.O.Observer.told c.loop.observer) (g.O.Observer.told c.round.new.observer) c.in_err-round.field-0.0
    c.from_residual.result c.from_residual.ensures.1 c.loop.invariant.told c.in_err-round.ensures.told

pub returns-then-not-branch-clause-told : goal.returns-then-not-branch-clause-told
returns-then-not-branch-clause-told g c =
    told_then c.args.plant.now.history c.loop.plant.history c.round.new.plant.history
    (g.O.Observer.told c.args.observer.now) (g.O.Observer.told c.loop.observer)
    (g.O.Observer.told c.round.new.observer) c.loop.invariant.told c.in_ok-round.ensures.told
