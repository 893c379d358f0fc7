use Rattle.std.proofs.Common.{refl}
use Rattle.plantdriving.specs.Order.{scans_at}
use Rattle.plantdriving.specs.Quiet.{HasNoScan}
use Rattle.plantdriving.proofs.Again.{turned_more, turned_none}
use Rattle.plantdriving.proofs.Linked.{scan_nothing, scan_then}
use Rattle.plantdriving.proofs.Order.{no_scan_left, on_and_on, stays_same}
use Rattle.plantdriving.proofs.Tellings.{stopped_then, told_none, told_then}
use Rattle.plantdriving.proofs.scanning.scan_all.Goals as goal

pub returns-in_err-scan_next-clause-step : goal.returns-in_err-scan_next-clause-step
returns-in_err-scan_next-clause-step g c =
    scan_then c.args.plant.now c.loop.plant c.scan_next.new.plant c.loop.invariant.step c.in_err-scan_next.ensures.step

pub loop-preserved : goal.loop-preserved
loop-preserved g c = record {
  step = scan_then c.args.plant.now c.loop.plant c.scan_next.new.plant c.loop.invariant.step
      c.in_ok-scan_next.ensures.step;
  goes_on = on_and_on scans_at scans_at scans_at c.args.plant.now c.loop.plant c.scan_next.new.plant
      c.loop.invariant.goes_on c.in_ok-scan_next.ensures.goes_on;
  turned = turned_more c.args.plant.now c.loop.plant c.scan_next.new.plant c.loop.counter c.loop.any
      c.in_ok-scan_next.field-0 (HasNoScan c.loop.plant) c.loop.invariant.turned c.in_ok-scan_next.ensures.turn
      c.if-not-branch.false;
  told = told_then c.args.plant.now.history c.loop.plant.history c.scan_next.new.plant.history
      (g.O.Observer.told c.args.observer.now) (g.O.Observer.told c.loop.observer)
      (g.O.Observer.told c.scan_next.new.observer) c.loop.invariant.told c.in_ok-scan_next.ensures.told;
}

pub returns-in_err-scan_next-clause-goes_on : goal.returns-in_err-scan_next-clause-goes_on
returns-in_err-scan_next-clause-goes_on g c =
    on_and_on scans_at scans_at scans_at c.args.plant.now c.loop.plant c.scan_next.new.plant c.loop.invariant.goes_on
    c.in_err-scan_next.ensures.goes_on

pub returns-then-not-branch-clause-goes_on : goal.returns-then-not-branch-clause-goes_on
returns-then-not-branch-clause-goes_on g c =
    on_and_on scans_at scans_at scans_at c.args.plant.now c.loop.plant c.scan_next.new.plant c.loop.invariant.goes_on
    c.in_ok-scan_next.ensures.goes_on

pub returns-then-not-branch-clause-none : goal.returns-then-not-branch-clause-none
returns-then-not-branch-clause-none g c =
    no_scan_left c.loop.plant c.scan_next.new.plant c.in_ok-scan_next.field-0 c.in_ok-scan_next.ensures.step.later.plant
    c.in_ok-scan_next.ensures.turn c.if-not-branch.true

pub returns-in_err-scan_next-clause-told : goal.returns-in_err-scan_next-clause-told
returns-in_err-scan_next-clause-told g c =
    stopped_then c.args.plant.now c.loop.plant c.scan_next.new.plant (g.O.Observer.told c.args.observer.now)
    (g.O.Observer.told c.loop.observer) (g.O.Observer.told c.scan_next.new.observer) c.in_err-scan_next.field-0.0
    c.from_residual.result c.from_residual.ensures.1 c.loop.invariant.told c.in_err-scan_next.ensures.told

pub returns-then-not-branch-clause-told : goal.returns-then-not-branch-clause-told
returns-then-not-branch-clause-told g c =
    told_then c.args.plant.now.history c.loop.plant.history c.scan_next.new.plant.history
    (g.O.Observer.told c.args.observer.now) (g.O.Observer.told c.loop.observer)
    (g.O.Observer.told c.scan_next.new.observer) c.loop.invariant.told c.in_ok-scan_next.ensures.told

pub loop-init : goal.loop-init
loop-init g c = record {
  step = scan_nothing c.args.plant.now;
  goes_on = stays_same c.args.plant.now c.args.plant.now scans_at refl;
  turned = turned_none c.args.plant.now;
  told = told_none c.args.plant.now.history c.args.plant.now.history (g.O.Observer.told c.args.observer.now)
      (g.O.Observer.told c.args.observer.now) refl refl;
}
